use Rattle.std.proofs.Common.{◌≡◌, ◌∙◌, ap, arith, get_or, length, set}
use Rattle.std.specs.Prelude.{bit_xor}
use Rattle.sealed_frames.specs.Hmac.{block_of, padded}
use Rattle.sealed_frames.proofs.Padding.{all_done, one_more}
use Rattle.sealed_frames.proofs.hmac.padded_block.Goals as goal

pub loop-place-preserved : goal.loop-place-preserved
loop-place-preserved c =
    let len : length c.bytes-bytes.result.now ≡ 32 = ap length c.bytes-bytes.ensures.value ∙ c.bytes-bytes.ensures.len in
    ap (λ block. set block c.loop-place.place (bit_xor (get_or c.bytes-bytes.result.now c.loop-place.place 0) c.args.pad)) c.loop-place.invariant
    ∙ one_more c.bytes-bytes.result.now c.args.pad c.loop-place.place c.loop-place-test.true len

pub returns : goal.returns
returns c =
    let len : length c.bytes-bytes.result.now ≡ 32 = ap length c.bytes-bytes.ensures.value ∙ c.bytes-bytes.ensures.len in
    c.loop-place.invariant
    ∙ all_done c.bytes-bytes.result.now c.args.pad c.loop-place.place len (omega arith)
    ∙ ap (λ key. padded c.args.pad (block_of key)) c.bytes-bytes.ensures.value
