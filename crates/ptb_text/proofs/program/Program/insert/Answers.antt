-- This file answers what is left to prove of `Program::insert`.
use Rattle.std.proofs.Common.{◌≡◌, ◌-◌, ◌≤◌, length, take, refl, sym, ap, subst, ◌∙◌, arith}
use Rattle.std.specs.List.{insert}
use Rattle.std.proofs.lemmas.List.Sums.{sum_by-insert, sum_by-take-le}
use Rattle.ptb_text.specs.declared.program.Statement.{Statement}
use Rattle.ptb_text.specs.Program.{lengths, texts_length}
use Rattle.ptb_text.specs.Statements.{StoredProgram}
use Rattle.ptb_text.proofs.Pool.{lengths-part}
use Rattle.ptb_text.proofs.StoredTexts.{IsKept-same, insert_enters, insert_kept, insert_size}
use Rattle.ptb_text.proofs.StoredTexts.{store_full, store_refused, short_text, grown_cost}
use Rattle.ptb_text.proofs.StoredLines.{HasSizes-from_kept, length_shown, memory_shown, same_shown}
use Rattle.ptb_text.proofs.program.Program.insert.Goals as goal
use Rattle.ptb_text.proofs.program.Program.insert.Goals.{After-text_start-place, After-unwrap}

pub returns-then-cost-self : goal.returns-then-cost-self
returns-then-cost-self c =
    store_full c.self.inside c.args.self.now c.self.view_is c.args.number c.args.text.now _
    (insert_size c.self.inside c.args.self.now c.self.view_is c.self.invariant c.args.number c.args.at c.args.text.now
    c.requires.place c.cost.result c.cost.ensures.value) c.if-cost-self.true

-- the program stays where a growth is refused
pub returns-then-is_err : goal.returns-then-is_err
returns-then-is_err c =
    store_refused c.self.inside c.args.self.now c.self.view_is c.args.number c.args.text.now _
    (insert_size c.self.inside c.args.self.now c.self.view_is c.self.invariant c.args.number c.args.at c.args.text.now
    c.requires.place c.cost.result c.cost.ensures.value) c.if-cost-self.false
    (record c.self.inside { pool = c.try_reserve.new.self }) refl c.try_reserve.ensures.items refl

pub invariant_of-self : goal.invariant_of-self
invariant_of-self c =
    IsKept-same c.self.inside
    (record c.self.inside { pool = c.try_reserve.new.self }) refl c.try_reserve.ensures.items refl c.self.invariant

pub returns-then-is_err-2 : goal.returns-then-is_err-2
returns-then-is_err-2 c =
    store_refused c.self.inside c.args.self.now c.self.view_is c.args.number c.args.text.now _
    (insert_size c.self.inside c.args.self.now c.self.view_is c.self.invariant c.args.number c.args.at c.args.text.now
    c.requires.place c.cost.result c.cost.ensures.value) c.if-cost-self.false
    (record c.self.inside { statements = c.try_reserve-2.new.self; pool = c.try_reserve.new.self })
    c.try_reserve-2.ensures.items c.try_reserve.ensures.items refl

pub invariant_of-self-then-is_err-2 : goal.invariant_of-self-then-is_err-2
invariant_of-self-then-is_err-2 c =
    IsKept-same c.self.inside (record c.self.inside {
      statements = c.try_reserve-2.new.self;
      pool = c.try_reserve.new.self;
    }) c.try_reserve-2.ensures.items c.try_reserve.ensures.items refl
    c.self.invariant

pub invariant_of-self-2 : goal.invariant_of-self-2
invariant_of-self-2 c =
    IsKept-same c.self.inside (record c.self.inside {
      statements = c.try_reserve-2.new.self;
      pool = c.try_reserve.new.self;
    }) c.try_reserve-2.ensures.items c.try_reserve.ensures.items refl
    c.self.invariant

-- where the new text goes
place : (c : After-text_start-place) → c.text_start-place.result ≡ texts_length (take c.args.at c.args.self.now.lines)
place c =
    let same = same_shown c.self.inside (record c.self.inside {
      statements = c.try_reserve-2.new.self;
      pool = c.try_reserve.new.self;
    }) c.try_reserve-2.ensures.items c.try_reserve.ensures.items refl
    ∙ c.self.view_is in
    c.text_start-place.ensures ∙ ap (λ q. texts_length (take c.args.at q.lines)) same

pub put_text-requires-clause-within : goal.put_text-requires-clause-within
put_text-requires-clause-within c =
    let p = c.args.self.now in
    let s = HasSizes-from_kept c.self.inside p c.self.view_is c.self.invariant in
    let here = place (goal.at.put_text-requires-clause-within c).After-text_start-place in
    let part = sum_by-take-le (λ t. length t.1) p.lines c.args.at in
    omega (arith, here, part, s.texts_are, c.from-2.ensures, c.try_reserve.ensures.len, c.self.inside.pool.ok.0)

-- the new statement is at its place
edit : (c : After-unwrap)
    → c.insert.new.self.items ≡ insert c.self.inside.statements.items c.args.at
    (record { number = c.args.number; place = c.text_start-place.result; length = length c.args.text.now })
edit c = (rw c.unwrap.ensures at c.insert.ensures.items) ∙ ap (λ all. insert all c.args.at
    (record { number = c.args.number; place = c.text_start-place.result; length = length c.args.text.now }))
    c.try_reserve-2.ensures.items

pub lay_out-requires : goal.lay_out-requires
lay_out-requires c =
    let p = c.args.self.now in
    let s = HasSizes-from_kept c.self.inside p c.self.view_is c.self.invariant in
    let here = place (goal.at.lay_out-requires c).After-text_start-place in
    let all = c.self.inside.statements.items in
    let ss = c.deref_mut.result.now in
    let new : Statement = record {
      number = c.args.number;
      place = c.text_start-place.result;
      length = length c.args.text.now;
    } in
    let front = sum_by-take-le (λ t. length t.1) p.lines c.args.at in
    let part = lengths-part ss c.args.at (length ss - c.args.at) in
    let left : lengths ss ≡ lengths (insert all c.args.at new) =
    ap lengths (c.deref_mut.ensures.value ∙ edit (goal.at.lay_out-requires c).After-unwrap) in
    let more = sum_by-insert (λ t. t.length) all c.args.at new in
    omega (
      arith,
      here,
      front,
      part,
      left,
      more,
      c.self.invariant.to_the_end,
      s.texts_are,
      s.cost_is,
      s.small,
      c.cost.ensures.value,
      c.if-cost-self.false,
      memory_shown c.self.inside p c.self.view_is,
    )

pub invariant_of-self-3 : goal.invariant_of-self-3
invariant_of-self-3 c =
    let g = goal.at.invariant_of-self-3 c in
    insert_kept c.self.inside c.args.self.now c.self.view_is c.self.invariant c.args.number c.args.at c.args.text.now
    c.requires.place c.cost.result c.cost.ensures.value c.if-cost-self.false
    c.insert.new.self c.deref_mut.result.now c.lay_out.new.statements c.put_text.new.pool c.text_start-place.result
    (place g.After-text_start-place) c.deref_mut.ensures.value c.deref_mut.ensures.len c.lay_out.ensures
    _ (edit g.After-unwrap) refl _ c.from.result c.from-2.result c.put_text.ensures c.try_reserve.ensures.items
    c.from.ensures c.from-2.ensures c.requires.statement

pub returns : goal.returns
returns c =
    let g = goal.at.returns c in
    insert_enters c.self.inside c.args.self.now c.self.view_is c.self.invariant c.args.number c.args.at c.args.text.now
    c.requires.place c.cost.result c.cost.ensures.value c.if-cost-self.false
    c.insert.new.self c.deref_mut.result.now c.lay_out.new.statements c.put_text.new.pool c.text_start-place.result
    (place g.After-text_start-place) c.deref_mut.ensures.value c.deref_mut.ensures.len c.lay_out.ensures
    _ (edit g.After-unwrap) refl _ c.from.result c.from-2.result c.put_text.ensures c.try_reserve.ensures.items
    c.from.ensures c.from-2.ensures

pub insert-requires : goal.insert-requires
insert-requires c = omega (
  arith,
  c.requires.place.in_range,
  length_shown c.self.inside c.args.self.now c.self.view_is,
  c.try_reserve-2.ensures.len,
  c.self.inside.statements.ok.0,
)

pub offset_bounds-deref_mut-at : goal.offset_bounds-deref_mut-at
offset_bounds-deref_mut-at c =
    let s = HasSizes-from_kept c.self.inside c.args.self.now c.self.view_is c.self.invariant in
    omega (arith, c.requires.place.in_range, s.cost_is, s.fits, s.small)

pub overflow_add-cost : goal.overflow_add-cost
overflow_add-cost c = omega (arith, short_text c.args.number c.args.text.now c.requires.statement)

pub overflow_cast-cost : goal.overflow_cast-cost
overflow_cast-cost c = omega (arith, short_text c.args.number c.args.text.now c.requires.statement)

pub overflow_add-cost-2 : goal.overflow_add-cost-2
overflow_add-cost-2 c =
    omega (
      arith,
      grown_cost c.args.self.now c.cost.ensures.sound c.cost.result c.cost.ensures.value c.args.number
          c.args.text.now c.requires.statement,
    )

pub overflow_cast-statement : goal.overflow_cast-statement
overflow_cast-statement c = omega (arith, short_text c.args.number c.args.text.now c.requires.statement)

pub text_start-place-requires : goal.text_start-place-requires
text_start-place-requires c =
    let same = same_shown c.self.inside (record c.self.inside {
      statements = c.try_reserve-2.new.self;
      pool = c.try_reserve.new.self;
    }) c.try_reserve-2.ensures.items c.try_reserve.ensures.items refl
    ∙ c.self.view_is in
    subst (λ (q : StoredProgram). c.args.at ≤ length q.lines) (sym same) c.requires.place.in_range
