-- How a report stops.
use Rattle.std.proofs.Common.{◌≡◌, ◌⊎◌, ℕ, List, false, inl, inr, sym, ap, subst, ◌∙◌}
use Rattle.file_pieces.specs.declared.progress.FileContents.{FileContents}
use Rattle.node_file.specs.declared.fault.FileFault.{FileFault}
use Rattle.node_file.specs.declared.fault.FileFault.TheVariants as files
use Rattle.plumctl_file.specs.declared.report.Reported.TheVariants.{Refused}
use Rattle.streams.specs.declared.fault.StreamFault.{StreamFault}
use Rattle.streams.specs.Moment.{SinkAt, SourceAt}
use Rattle.plumctl_file.specs.Read.{HoldsFile, RefusesFile}
use Rattle.plumctl_file.specs.Report.{refusal_line}
use Rattle.plumctl_file.specs.Reported.{PrintsReport, StopsRefusal, StopsReport, WritesFront, WritesOut, is_memory, whole_report}
use Rattle.plumctl_file.specs.Reported.StopsReport.{InRefusal, InReport, Unprinted}

-- in the report of a file
pub stopped_in : (r s : SourceAt) (old new : SinkAt) (file : FileContents) (text : List ℕ) (fault : StreamFault) → HoldsFile r s file → text ≡ whole_report file → WritesFront old new text fault → StopsReport r s old new fault
stopped_in r s old new file text fault holds is front = InReport file holds (subst (λ (t : List ℕ). WritesFront old new t fault) is front)

-- a refusal that isn't one of memory
refuses_so : (r s : SourceAt) (refusal : FileFault) → (refusal ≡ files.Memory) ⊎ RefusesFile r s refusal → is_memory refusal ≡ false → RefusesFile r s refusal
refuses_so r s refusal (inl memory) other = absurd (cc (sym other ∙ ap is_memory memory))
refuses_so r s refusal (inr refuses) other = refuses

-- its line was printed
pub printed_so : (r s : SourceAt) (old new : SinkAt) (refusal : FileFault) → (refusal ≡ files.Memory) ⊎ RefusesFile r s refusal → (is_memory refusal ≡ false) × WritesOut old new (refusal_line refusal) → PrintsReport r s old new (Refused refusal)
printed_so r s old new refusal refused printed = (refuses_so r s refusal refused printed.0, printed.1)

-- or not
pub stopped_so : (r s : SourceAt) (old new : SinkAt) (refusal : FileFault) (stopped : StreamFault) → (refusal ≡ files.Memory) ⊎ RefusesFile r s refusal → StopsRefusal refusal old new stopped → StopsReport r s old new stopped
stopped_so r s old new refusal stopped refused is = elim is.stops [
  | inl memory ↦ Unprinted memory.0 memory.1
  | inr front ↦ InRefusal refusal (refuses_so r s refusal refused front.0) front.1
]
