-- This file answers that the plays were put in, by themselves or together with others.
use Rattle.std.proofs.Common.{◌≡◌, map, refl, sym}
use Rattle.std.specs.BTreeMap.{insert_entry}
use Rattle.std.specs.Ordering.{nat_cmp}
use Rattle.ptb_chances.specs.WaitingPlays.{planned}
use Rattle.ptb_chances.proofs.PassedResults.{on_ok_four}
use Rattle.ptb_chances.proofs.Worklists.{joined_there, put_alone, put_aside, put_with}
use Rattle.ptb_chances.proofs.worklist.Worklist.add.Goals as goal

pub returns-in_default : goal.returns-in_default
returns-in_default c =
    let self = c.args.self.now in
    let entries : c.insert.new.self.entries ≡ insert_entry nat_cmp self.states.entries c.key-key.result c.args.waiting =
    rw c.get_mut.follows.holds-at-none at c.in_ok-insert.ensures.entries in
    put_alone (map (planned self.state) self.plans.items) self.others.items self.states.entries c.key-key.result
    c.args.waiting c.insert.new.self.entries (sym c.in_default.ensures.value) entries

pub returns-then-is_same : goal.returns-then-is_same
returns-then-is_same c =
    let self = c.args.self.now in
    let v = c.in-Some.other.now in
    let w = c.args.waiting in
    let joins = c.join.ensures in
    let same : (v.state.machine ≡ w.state.machine) × (v.state.taken ≡ w.state.taken)
    × (v.state.shown.items ≡ w.state.shown.items) =
    c.if-is_same.ensures refl in
    on_ok_four c.join.result joins.state joins.chance joins.positive joins.runs (λ state chance positive runs.
    put_with (map (planned self.state) self.plans.items) self.others.items self.states.entries c.key-key.result w v
    c.join.new.self _ (sym c.in-Some.ensures.value) ((c.get_mut.follows.holds c.join.new.self).0)
    (joined_there v w c.join.new.self same.0 same.1 same.2 state chance positive runs))

pub returns : goal.returns
returns c =
    let self = c.args.self.now in
    put_aside (map (planned self.state) self.plans.items) self.others.items self.states.entries c.key-key.result
    c.args.waiting c.in-Some.other.now c.push.new.self.items _ (sym c.in-Some.ensures.value)
    ((c.get_mut.follows.holds c.in-Some.other.now).0) c.in_ok-push.ensures.items
