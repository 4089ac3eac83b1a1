-- Bytes that open though nobody sealed them. Nothing is said of how hard they are to find.
use Rattle.std.specs.Prelude.{◌≡◌, ◌≢◌, ℕ, List, Contains}
use Rattle.sealed_frames.specs.Seal.{IsSealed, frame_in, seal_in}
use Rattle.sealed_frames.specs.declared.key.Keys.{Keys}

-- two unequal frames have one seal, each under one of the keys
pub record ShareASeal (keys : Keys) (one other : List ℕ) : Type 0 where
  pub one_is_sealed : IsSealed keys one
  pub other_is_sealed : IsSealed keys other
  pub unequal : frame_in one ≢ frame_in other
  pub one_seal : seal_in one ≡ seal_in other

-- how bytes open that are none of those that were sealed: another frame was sealed that has the
-- same seal, or none was, and the seal is right all the same
pub data IsForged (keys : Keys) (sealed : List (List ℕ)) (bytes : List ℕ) : Type 0 where
  two_share_a_seal : (other : List ℕ) → Contains sealed other → ShareASeal keys bytes other
      → IsForged keys sealed bytes
  the_seal_is_new : IsSealed keys bytes
      → ((other : List ℕ) → Contains sealed other → seal_in bytes ≢ seal_in other)
      → IsForged keys sealed bytes
