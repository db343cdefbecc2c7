use Rattle.std.proofs.Common.{◌∙◌, refl, sym}
use Rattle.archive_index.proofs.Standing.{entries_read, leads_on}
use Rattle.archive_index.proofs.map.entries.entries_at.Goals as goal

pub returns-then-len-eq0-clause-elements : goal.returns-then-len-eq0-clause-elements
returns-then-len-eq0-clause-elements g c value h =
    entries_read g.K.Portable.shape g.V.Portable.shape g.K.Portable.knows g.V.Portable.knows c.args.bytes.now c.args.pos 0 0 (sym c.if-len-eq0.true ∙ c.number_at-len.ensures.value) (λ e. refl) (λ some. absurd (some refl)) value h

pub returns-then-len-eq0-clause-there : goal.returns-then-len-eq0-clause-there
returns-then-len-eq0-clause-there g c = record { value = c.requires.value; stand = returns-then-len-eq0-clause-elements g c c.requires.value c.requires.held }

pub target_of-requires-clause-leads : goal.target_of-requires-clause-leads
target_of-requires-clause-leads g c =
    leads_on g.K.Portable.shape g.V.Portable.shape g.K.Portable.knows g.V.Portable.knows c.args.bytes.now c.args.pos c.requires (λ e. c.if-len-eq0.false (c.number_at-len.ensures.value ∙ e))

pub returns-clause-elements : goal.returns-clause-elements
returns-clause-elements g c value h =
    entries_read g.K.Portable.shape g.V.Portable.shape g.K.Portable.knows g.V.Portable.knows c.args.bytes.now c.args.pos c.target_of.result c.number_at-len.result c.number_at-len.ensures.value (λ e. absurd (c.if-len-eq0.false e)) (λ some. c.target_of.ensures) value h

pub returns-clause-there : goal.returns-clause-there
returns-clause-there g c = record { value = c.requires.value; stand = returns-clause-elements g c c.requires.value c.requires.held }
