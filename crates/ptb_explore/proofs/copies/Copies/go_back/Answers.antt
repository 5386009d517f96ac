-- This file answers that the newest copy is the last of those that are kept.
use Rattle.std.proofs.Common.{◌∙◌, ◌-◌, ap, subst, List, length, take}
use Rattle.std.specs.Prelude.{option_copied}
use Rattle.ptb_explore.specs.Copies.{GoesBack}
use Rattle.ptb_explore.specs.declared.copies.KeptCopy.{KeptCopy}
use Rattle.ptb_explore.proofs.NewestCopies.{last_newest, newest_dropped, newest_split, none_kept}
use Rattle.ptb_explore.proofs.copies.Copies.go_back.Goals as goal
use Rattle.ptb_explore.proofs.copies.Copies.go_back.Goals.{In-Some-pop}

pub returns-in_default : goal.returns-in_default
returns-in_default c =
    let ks = c.loop-newest.self.kept.items in
    let none = none_kept ks
    (last_newest ks c.as_slice.result.now c.last.result c.as_slice.ensures.value c.last.ensures.value
    ∙ ap option_copied c.in_default.is) in (
      subst (λ (l : List KeptCopy). GoesBack c.args.most c.args.self.now.kept.items l) none c.loop-newest.invariant,
      none,
    )

pub returns-then-newest-most : goal.returns-then-newest-most
returns-then-newest-most c =
    let ks = c.loop-newest.self.kept.items in
    let newest = c.in-Some.newest.now in
    let split = newest_split ks newest
    (last_newest ks c.as_slice.result.now c.last.result c.as_slice.ensures.value c.last.ensures.value
    ∙ ap option_copied c.in-Some.is) in (
      c.loop-newest.invariant,
      (take (length ks - 1) ks, newest, split, c.if-newest-most.true, c.in_ok-copy.ensures),
    )

-- the newest copy is dropped, and the older ones are left
dropped : (c : In-Some-pop)
    → GoesBack c.args.most c.args.self.now.kept.items c.pop.new.self.items
dropped c =
    let ks = c.loop-newest.self.kept.items in
    newest_dropped c.args.most c.args.self.now.kept.items ks c.pop.new.self.items c.in-Some.newest.now
    c.in-Some-pop.dropped c.loop-newest.invariant
    (last_newest ks c.as_slice.result.now c.last.result c.as_slice.ensures.value c.last.ensures.value
    ∙ ap option_copied c.in-Some.is)
    c.if-newest-most.false c.in-Some-pop.ensures.items

pub loop-newest-preserved : goal.loop-newest-preserved
loop-newest-preserved c = dropped (goal.at.loop-newest-preserved c).In-Some-pop

pub loop-newest-preserved-in-Some-pop : goal.loop-newest-preserved-in-Some-pop
loop-newest-preserved-in-Some-pop c = dropped (goal.at.loop-newest-preserved-in-Some-pop c).In-Some-pop

pub loop-newest-preserved-in-Some-pop-2 : goal.loop-newest-preserved-in-Some-pop-2
loop-newest-preserved-in-Some-pop-2 c = dropped (goal.at.loop-newest-preserved-in-Some-pop-2 c).In-Some-pop
