use Rattle.std.proofs.Common.{◌≡◌, ◌++◌, length, All}
use Rattle.cabinet_text_grammar.specs.Line.{IsStep, spelled_path}
use Rattle.cabinet_text_nodes.specs.View.{path_of}
use Rattle.cabinet_text_reading.specs.Parts.{IsPath}
use Rattle.cabinet_text_reading.proofs.lines.path.read_steps.Given as goal

-- the steps that were read are spelled by the bytes before the rest, which is a path where the bytes are one
abbrev pub invariant-loop-rest : goal.invariant-loop-rest
invariant-loop-rest l = record {
  on : IsPath l.bytes → IsPath l.rest;
  steps : All IsStep (path_of l.path.items);
  spelled : l.bytes ≡ spelled_path (path_of l.path.items) ++ l.rest;
}

abbrev pub decreases-loop-rest : goal.decreases-loop-rest
decreases-loop-rest l = length l.rest
