-- This file answers that the last answer of the list is replaced.
use Rattle.std.proofs.Common.{◌≡◌, ◌∙◌, ◌+◌, ◌++◌, ◌∷◌, [], List, take, take_all, ap, sym, refl, arith}
use Rattle.std.specs.Prelude.{slice_set}
use Rattle.std.proofs.lemmas.Grind.{take-set_at}
use Rattle.std.proofs.lemmas.List.{length-set}
use Rattle.ptb_answers.specs.declared.asked.Asked.{Asked}
use Rattle.ptb_explore.proofs.recorder.Recorder.replace_plan.Goals as goal

pub returns-clause-asked : goal.returns-clause-asked
returns-clause-asked c =
    let list = c.args.list.now in
    let last = c.args.last in
    let all = take_all (last + 1) (slice_set list last c.args.raised)
    (omega (arith, c.requires, length-set list last c.args.raised)) in
    ap (λ (l : List Asked). slice_set l last c.args.raised) c.copy_from_slice.ensures.items ∙ sym all
    ∙ take-set_at list last (last + 1) c.args.raised refl (omega (arith, c.requires))
