-- This file answers what is left to prove of `Program::search`.
use Rattle.std.proofs.Common.{rules, ◌≡◌, ◌-◌, ◌<◌, length, map, true, Option, Some, None, IfSome, slice_get}
use Rattle.std.specs.FinMap.{is_sorted}
use Rattle.std.specs.Ordering.{nat_cmp}
use Rattle.std.proofs.lemmas.List.Sorted.{answers_always}
use Rattle.ptb_text.specs.declared.program.Statement.{Statement}
use Rattle.ptb_text.specs.NumberOrder.{IsGapFor}
use Rattle.ptb_text.proofs.Pool.{shown}
use Rattle.ptb_text.proofs.Searches.{IsSearched, searched, IsGapFor-end}
use Rattle.ptb_text.proofs.SoundPrograms.{both_true}
use Rattle.ptb_text.proofs.program.Program.search.Goals as goal
use Rattle.ptb_text.proofs.program.Program.search.Goals.{After-binary_search_by_key, After-len}
use Rattle.ptb_text.proofs.program.Program.search.Goals.{in_default-via-in-Some+else-last-number}
use Rattle.ptb_text.proofs.program.Program.search.Goals.{in_default-via-in_default}

-- the closure gives a statement's number, and the slice is the program's statements
by_number : (c : After-binary_search_by_key)
    → IsSearched c.args.self.now.lines c.args.number c.binary_search_by_key.result
by_number c =
    let facts = c.binary_search_by_key.ensures in
    let by_key = facts.position (λ s. s.number) (answers_always _ _ _ (λ f a r g called. search rules)) in
    let sorted : is_sorted nat_cmp (map (shown c.self.inside.pool.items) c.self.inside.statements.items) ≡ true =
    (both_true _ _ c.self.invariant.sound.is_map).0 in
    rw (← c.self.view_is) (searched c.self.inside.pool.items c.self.inside.statements.items sorted c.args.number _
    (rw c.deref-in-Some.ensures.value at facts.bound) (rw c.deref-in-Some.ensures.value at by_key))

pub returns-in-Some-clause-found : goal.returns-in-Some-clause-found
returns-in-Some-clause-found c = (by_number c).found

pub returns-in-Some-clause-absent : goal.returns-in-Some-clause-absent
returns-in-Some-clause-absent c = (by_number c).absent

-- the last statement, if there is one, has a smaller number
after_all : (c : After-len) (last : Option Statement)
    → last ≡ slice_get c.deref.result.now (length c.deref.result.now - 1) → IfSome last (λ s. s.number < c.args.number)
    → IsGapFor c.args.self.now.lines c.args.number c.len.result
after_all c last is above =
    let items = c.self.inside.statements.items in
    let sorted : is_sorted nat_cmp (map (shown c.self.inside.pool.items) items) ≡ true =
    (both_true _ _ c.self.invariant.sound.is_map).0 in
    let gap = IsGapFor-end c.self.inside.pool.items items sorted c.args.number last
    (rw c.deref.ensures.value at is) above in
    rw (← c.self.view_is, c.len.ensures, c.self.inside.statements.ok.0) gap

pub returns-in_default-clause-absent : goal.returns-in_default-clause-absent
returns-in_default-clause-absent c =
    elim c.in_default.branch [
      | in_default-via-in-Some+else-last-number w ↦
          after_all c (Some w.in-Some.last.now) w.in-Some.ensures.value w.if-last-number.false
      | in_default-via-in_default w ↦ after_all c None w.in_default.ensures.value tt
    ]
