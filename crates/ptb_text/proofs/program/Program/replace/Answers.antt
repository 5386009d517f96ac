-- This file answers what is left to prove of `Program::replace`.
use Rattle.std.proofs.Common.{rules, ◌≡◌, ◌-◌, length, set, refl, ap, arith}
use Rattle.std.proofs.lemmas.List.Sums.{sum_by-set}
use Rattle.ptb_text.specs.declared.program.Statement.{Statement}
use Rattle.ptb_text.specs.Program.{lengths}
use Rattle.ptb_text.proofs.Pool.{IsEntry, lengths-part}
use Rattle.ptb_text.proofs.StoredTexts.{IsKept-same, replace_cost, replace_enters, replace_kept}
use Rattle.ptb_text.proofs.StoredTexts.{replace_size, store_full, store_refused, short_text, grown_cost}
use Rattle.ptb_text.proofs.StoredLines.{IsEntry-shown, HasSizes-from_kept, memory_shown, stored_place}
use Rattle.ptb_text.proofs.program.Program.replace.Goals as goal
use Rattle.ptb_text.proofs.program.Program.replace.Goals.{After-from}

-- where the old text is
entry : (c : After-from) → IsEntry c.args.self.now.lines c.args.at c.index.result.now
entry c = IsEntry-shown c.self.inside c.args.self.now c.self.view_is c.self.invariant c.args.at c.index.result.now
    c.requires.place.in_range c.index.ensures

pub overflow_sub-cost : goal.overflow_sub-cost
overflow_sub-cost c =
    replace_cost c.self.inside c.args.self.now c.self.view_is c.self.invariant c.args.number c.args.at c.args.text.now
    c.requires.place c.cost.result c.cost.ensures.value c.index.result.now c.index.ensures c.from.result
    c.from.ensures

pub returns-then-cost-self : goal.returns-then-cost-self
returns-then-cost-self c =
    store_full c.self.inside c.args.self.now c.self.view_is c.args.number c.args.text.now _
    (replace_size c.self.inside c.args.self.now c.self.view_is c.self.invariant c.args.number c.args.at c.args.text.now
    c.requires.place c.cost.result c.cost.ensures.value c.index.result.now c.index.ensures c.from.result
    c.from.ensures) c.if-cost-self.true

-- the program stays where the growth is refused
pub returns-then-is_err : goal.returns-then-is_err
returns-then-is_err c =
    store_refused c.self.inside c.args.self.now c.self.view_is c.args.number c.args.text.now _
    (replace_size c.self.inside c.args.self.now c.self.view_is c.self.invariant c.args.number c.args.at c.args.text.now
    c.requires.place c.cost.result c.cost.ensures.value c.index.result.now c.index.ensures c.from.result
    c.from.ensures) c.if-cost-self.false
    (record c.self.inside { pool = c.try_reserve.new.self }) refl c.try_reserve.ensures.items refl

pub invariant_of-self : goal.invariant_of-self
invariant_of-self c =
    IsKept-same c.self.inside
    (record c.self.inside { pool = c.try_reserve.new.self }) refl c.try_reserve.ensures.items refl c.self.invariant

pub put_text-requires-clause-within : goal.put_text-requires-clause-within
put_text-requires-clause-within c =
    let s = HasSizes-from_kept c.self.inside c.args.self.now c.self.view_is c.self.invariant in
    let e = entry (goal.at.put_text-requires-clause-within c).After-from in
    omega (arith, e.within, s.texts_are, c.end.ensures, c.try_reserve.ensures.len, c.self.inside.pool.ok.0)

pub lay_out-requires : goal.lay_out-requires
lay_out-requires c =
    let p = c.args.self.now in
    let s = HasSizes-from_kept c.self.inside p c.self.view_is c.self.invariant in
    let e = entry (goal.at.lay_out-requires c).After-from in
    let all = c.self.inside.statements.items in
    let ss = c.deref_mut.result.now in
    let old = c.index.result.now in
    let new : Statement = record { number = c.args.number; place = old.place; length = length c.args.text.now } in
    let part = lengths-part ss c.args.at (length ss - c.args.at) in
    let left : lengths ss ≡ lengths (set all c.args.at new) = ap lengths c.deref_mut.ensures.value in
    let change = sum_by-set (λ t. t.length) all c.args.at new old (omega (arith, s.count, c.requires.place.in_range)) in
    omega (
      arith,
      e.within,
      part,
      left,
      change,
      ap (λ t. t.length) c.index.ensures,
      c.from.ensures,
      c.self.invariant.to_the_end,
      s.texts_are,
      s.cost_is,
      s.small,
      c.cost.ensures.value,
      c.if-cost-self.false,
      memory_shown c.self.inside p c.self.view_is,
    )

pub invariant_of-self-2 : goal.invariant_of-self-2
invariant_of-self-2 c =
    replace_kept c.self.inside c.args.self.now c.self.view_is c.self.invariant c.args.number c.args.at c.args.text.now
    c.requires.place c.cost.result c.cost.ensures.value c.index.result.now c.index.ensures c.from.result
    c.from.ensures c.if-cost-self.false
    c.deref_mut.result.now c.lay_out.new.statements c.put_text.new.pool c.deref_mut.ensures.value
    c.deref_mut.ensures.len c.lay_out.ensures _ c.from-3.result c.end.result c.put_text.ensures
    c.try_reserve.ensures.items c.from-3.ensures c.end.ensures c.requires.statement

pub returns : goal.returns
returns c =
    replace_enters c.self.inside c.args.self.now c.self.view_is c.self.invariant c.args.number c.args.at c.args.text.now
    c.requires.place c.cost.result c.cost.ensures.value c.index.result.now c.index.ensures c.from.result
    c.from.ensures c.if-cost-self.false
    c.deref_mut.result.now c.lay_out.new.statements c.put_text.new.pool c.deref_mut.ensures.value
    c.deref_mut.ensures.len c.lay_out.ensures _ c.from-3.result c.end.result c.put_text.ensures
    c.try_reserve.ensures.items c.from-3.ensures c.end.ensures

pub put_text-requires-clause-room : goal.put_text-requires-clause-room
put_text-requires-clause-room c = search rules fits 50 depth 2

pub index-requires : goal.index-requires
index-requires c =
    omega (arith, stored_place c.self.inside c.args.self.now c.self.view_is c.args.at c.requires.place.in_range)

pub index_mut-requires : goal.index_mut-requires
index_mut-requires c =
    omega (arith, stored_place c.self.inside c.args.self.now c.self.view_is c.args.at c.requires.place.in_range)

pub offset_bounds-deref_mut-at : goal.offset_bounds-deref_mut-at
offset_bounds-deref_mut-at c =
    let s = HasSizes-from_kept c.self.inside c.args.self.now c.self.view_is c.self.invariant in
    omega (arith, c.requires.place.in_range, s.cost_is, s.fits, s.small)

pub overflow_cast-cost : goal.overflow_cast-cost
overflow_cast-cost c = omega (arith, short_text c.args.number c.args.text.now c.requires.statement)

pub overflow_add-cost : goal.overflow_add-cost
overflow_add-cost c =
    omega (
      arith,
      grown_cost c.args.self.now c.cost.ensures.sound c.cost.result c.cost.ensures.value c.args.number
          c.args.text.now c.requires.statement,
    )

pub overflow_cast-text : goal.overflow_cast-text
overflow_cast-text c = omega (arith, short_text c.args.number c.args.text.now c.requires.statement)
