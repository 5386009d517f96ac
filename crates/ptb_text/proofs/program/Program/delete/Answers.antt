-- This file answers what is left to prove of `Program::delete`.
use Rattle.std.proofs.Common.{◌≡◌, ◌-◌, ◌++◌, length, take, drop, sym, ap, ◌∙◌, arith}
use Rattle.std.proofs.lemmas.Grind.{common_steps}
use Rattle.std.specs.List.{remove, remove_range}
use Rattle.std.specs.Vec.{with_items}
use Rattle.std.proofs.lemmas.List.Sums.{sum_by-remove}
use Rattle.ptb_text.specs.declared.program.Program.TheInside.{Inside}
use Rattle.ptb_text.specs.Program.{lengths}
use Rattle.ptb_text.specs.Statements.{without_number}
use Rattle.ptb_text.proofs.Edits.{cost-without_place, is_program-without_number}
use Rattle.ptb_text.proofs.Entries.{without_number-gap, without_number-place}
use Rattle.ptb_text.proofs.Pool.{IsEntry, laid_items, lengths-part}
use Rattle.ptb_text.proofs.StoredLines.{IsEntry-shown, IsLayout, IsLayout-from_kept, IsLayout-remove}
use Rattle.ptb_text.proofs.StoredLines.{IsKept-from_layout, HasSizes-from_kept, lines_shown}
use Rattle.ptb_text.proofs.StoredLines.{memory_shown, is_program_shown}
use Rattle.ptb_text.proofs.program.Program.delete.Goals as goal
use Rattle.ptb_text.proofs.program.Program.delete.Goals.{After-end, After-lay_out}

-- where the text of the statement that is taken out is
entry : (c : After-end) → IsEntry c.args.self.now.lines c.in-Ok.at c.remove-deleted.result
entry c = IsEntry-shown c.self.inside c.args.self.now c.self.view_is c.self.invariant c.in-Ok.at c.remove-deleted.result
    c.in-Ok.ensures.found.in_range c.remove-deleted.ensures.value

pub drain-requires-clause-in_bounds : goal.drain-requires-clause-in_bounds
drain-requires-clause-in_bounds c =
    let s = HasSizes-from_kept c.self.inside c.args.self.now c.self.view_is c.self.invariant in
    let e = entry (goal.at.drain-requires-clause-in_bounds c).After-end in
    omega (arith, e.within, s.texts_are, c.end.ensures, c.self.inside.pool.ok.0)

pub lay_out-requires : goal.lay_out-requires
lay_out-requires c =
    let s = HasSizes-from_kept c.self.inside c.args.self.now c.self.view_is c.self.invariant in
    let e = entry (goal.at.lay_out-requires c).After-end in
    let all = c.self.inside.statements.items in
    let ss = c.deref_mut.result.now in
    let part = lengths-part ss c.in-Ok.at (length ss - c.in-Ok.at) in
    let left : lengths ss ≡ lengths (remove all c.in-Ok.at) =
    ap lengths (c.deref_mut.ensures.value ∙ c.remove-deleted.ensures.items) in
    let fewer = sum_by-remove (λ t. t.length) all c.in-Ok.at c.remove-deleted.result
    (omega (arith, s.count, c.in-Ok.ensures.found.in_range)) in
    omega (arith, part, left, fewer, c.self.invariant.to_the_end, s.texts_are, s.cost_is, s.fits, s.small, e.within)

-- the fields that are left
abbrev after : After-lay_out → Inside
after c = record {
  statements = with_items c.remove-deleted.new.self (take c.in-Ok.at c.deref_mut.result.now ++ (c.lay_out.new.statements
      ++ drop (length c.deref_mut.result.now - c.in-Ok.at) (drop c.in-Ok.at c.deref_mut.result.now)));
  pool = c.drop-drain.new.self.0;
  memory = c.self.inside.memory;
}

layout : (c : After-lay_out) → IsLayout (after c) (without_number c.args.self.now.lines c.args.number)
layout c =
    let p = c.args.self.now in
    let at = c.in-Ok.at in
    let place = c.remove-deleted.result.place in
    let e = IsEntry-shown c.self.inside p c.self.view_is c.self.invariant at c.remove-deleted.result
    c.in-Ok.ensures.found.in_range c.remove-deleted.ensures.value in
    let laid = laid_items c.remove-deleted.new.self c.deref_mut.result.now c.lay_out.new.statements at place
    c.deref_mut.ensures.value c.deref_mut.ensures.len c.lay_out.ensures in
    let pool : c.drop-drain.new.self.0.items ≡ remove_range c.self.inside.pool.items place c.end.result =
    c.drop-drain.ensures.items ∙ c.drain.ensures.kept
    ∙ ap (λ k. remove_range c.self.inside.pool.items k c.end.result) c.from.ensures in
    rw (without_number-place p.lines c.args.number at c.in-Ok.ensures.found)
    (IsLayout-remove c.self.inside (after c) p.lines (IsLayout-from_kept c.self.inside p c.self.view_is
    c.self.invariant) at place e.place_is c.remove-deleted.new.self.items laid c.end.result
    c.in-Ok.ensures.found.in_range (c.end.ensures ∙ e.end_is) c.remove-deleted.ensures.items pool)

pub invariant_of-self : goal.invariant_of-self
invariant_of-self c =
    let p = c.args.self.now in
    let s = HasSizes-from_kept c.self.inside p c.self.view_is c.self.invariant in
    let fewer = cost-without_place p.lines c.args.number c.in-Ok.at c.in-Ok.ensures.found in
    IsKept-from_layout (after (goal.at.invariant_of-self c).After-lay_out) (without_number p.lines c.args.number)
    (layout (goal.at.invariant_of-self c).After-lay_out)
    (is_program-without_number p.lines c.args.number (is_program_shown c.self.inside p c.self.view_is c.self.invariant))
    (omega (arith, fewer, s.fits, memory_shown c.self.inside p c.self.view_is)) c.self.invariant.sound.memory_size

pub returns-in-Ok-clause-lines : goal.returns-in-Ok-clause-lines
returns-in-Ok-clause-lines c =
    lines_shown (after (goal.at.returns-in-Ok-clause-lines c).After-lay_out)
    (without_number c.args.self.now.lines c.args.number) (layout (goal.at.returns-in-Ok-clause-lines c).After-lay_out)

pub returns-in_default-clause-lines : goal.returns-in_default-clause-lines
returns-in_default-clause-lines c =
    sym (without_number-gap c.args.self.now.lines c.args.number _ c.in_default.ensures.absent)

pub remove-deleted-requires : goal.remove-deleted-requires
remove-deleted-requires c = grind (arith, common_steps)

pub offset_bounds-deref_mut-at : goal.offset_bounds-deref_mut-at
offset_bounds-deref_mut-at c = grind (arith, common_steps)

pub slice_bounds-lay_out-count : goal.slice_bounds-lay_out-count
slice_bounds-lay_out-count c = grind (arith, common_steps)

pub slice_bounds-lay_out-start : goal.slice_bounds-lay_out-start
slice_bounds-lay_out-start c = grind (arith, common_steps)
