-- This file proves when the seed of a request is drawn.
--     same_presence     a value that is mapped is there where it was
--     no_seed_for_input, ..  of the streams, the answers and the mode: whether a seed is drawn
--     asks_at               what the options ask for, with the seed that was drawn or without one
-- Main lemma: `asks_at`.
use Rattle.std.specs.Prelude.{◌≡◌, ◌≤◌, ◌&&◌, ◌||◌, ℕ, Bool, true, false, not, Option, Some, None, IfSome}
use Rattle.std.specs.Prelude.{is_some, option_map}
use Rattle.std.proofs.Common.{refl, ◌∙◌, ap, arith}
use Rattle.ptb_options.specs.declared.request.Mode.{Mode}
use Rattle.ptb_options.specs.declared.request.Mode.TheVariants as modes
use Rattle.ptb_options.specs.declared.request.Request.{Request}
use Rattle.ptb_options.specs.Options.{Options, Requests, RequestsMode, RunsIt, clash}
use Rattle.ptb.specs.declared.terminal.Terminals.{Terminals}
use Rattle.ptb.specs.Exits.{AsksAt, by_seed, draws_seed, wants_seed, with_seed}

pub same_presence : {A B : Type 0} (f : A → B) (o : Option A) (mapped : Option B) → option_map f o ≡ mapped
    → is_some o ≡ is_some mapped
same_presence f None mapped same = ap is_some same
same_presence f (Some x) mapped same = ap is_some same

-- ---- over input, output, answers and a mode with answers

pub no_seed_for_input : (i o n p : Bool) → i ≡ false → false ≡ (i && o && not n && p)
no_seed_for_input i o n p h = grind arith

pub no_seed_for_output : (i o n p : Bool) → o ≡ false → false ≡ (i && o && not n && p)
no_seed_for_output i o n p h = grind arith

pub no_seed_for_answers : (i o n p : Bool) → n ≡ true → false ≡ (i && o && not n && p)
no_seed_for_answers i o n p h = grind arith

pub seed_for_none : (i o n p : Bool) → i ≡ true → o ≡ true → n ≡ false → p ≡ true → true ≡ (i && o && not n && p)
seed_for_none i o n p h k l m = grind arith

-- ---- over input, output, answers, the listing of the text or of its mistakes, the chances, all runs and a seed

of_answers : (i o n l k x a s : Bool) → l ≡ false → k ≡ false → x ≡ false → a ≡ false → s ≡ false
    → (i && o && not n && true) ≡ (i && o && not l && not k && not x && not a && not n && not s)
of_answers i o n l k x a s p q r t u = grind arith

of_other : (i o n l k x a s : Bool) → (l || k || x || a || s) ≡ true
    → (i && o && not n && false) ≡ (i && o && not l && not k && not x && not a && not n && not s)
of_other i o n l k x a s p = grind arith

-- ---- of the mode that the options ask for

module _ (t : Terminals) (o : Options) where
  draws-wants : (mode : Mode) → RequestsMode o mode → draws_seed t o mode ≡ wants_seed t o
  draws-wants (modes.Plain a) h =
      of_answers t.input t.output (is_some o.answers) o.list o.check o.chances o.all
      (is_some o.seed) h.0.unlisted h.0.unchecked h.0.no_chances h.1 (ap is_some h.2)
  draws-wants (modes.Seeded seed) h =
      of_other t.input t.output (is_some o.answers) o.list o.check o.chances o.all (is_some o.seed)
      (let given : is_some o.seed ≡ true = ap is_some h.2 in grind arith)
  draws-wants (modes.All under after first form) h =
      of_other t.input t.output (is_some o.answers) o.list o.check o.chances o.all (is_some o.seed)
      (let given : o.all ≡ true = h.1 in grind arith)
  draws-wants (modes.Shares answers form) h =
      of_other t.input t.output (is_some o.answers) o.list o.check o.chances o.all (is_some o.seed)
      (let given : o.all ≡ true = h.1 in grind arith)
  draws-wants (modes.Sample seed runs form) h =
      of_other t.input t.output (is_some o.answers) o.list o.check o.chances o.all (is_some o.seed)
      (let given : is_some o.seed ≡ true = ap is_some h.2 in grind arith)
  draws-wants modes.List h =
      of_other t.input t.output (is_some o.answers) o.list o.check o.chances o.all (is_some o.seed)
      (let given : o.list ≡ true = h in grind arith)
  draws-wants modes.Check h =
      of_other t.input t.output (is_some o.answers) o.list o.check o.chances o.all (is_some o.seed)
      (let given : o.check ≡ true = h.1 in grind arith)
  draws-wants modes.Chances h =
      of_other t.input t.output (is_some o.answers) o.list o.check o.chances o.all (is_some o.seed)
      (let given : o.chances ≡ true = h.2 in grind arith)

-- a seed goes with the options of a run that is given neither answers nor a seed
clash_drawn : (o : Options) (seed : ℕ) → RunsIt o → o.all ≡ false → o.answers ≡ None → clash o ≡ None
    → clash (with_seed o (Some seed)) ≡ None
clash_drawn o seed runs every answers h =
    let list = runs.unlisted in
    let check = runs.unchecked in
    let chances = runs.no_chances in
    grind arith

-- no sample is asked for without a seed
unsampled : (o : Options) → RunsIt o → o.all ≡ false → o.seed ≡ None → clash o ≡ None → o.sample ≡ None
unsampled o runs every seed h =
    let list = runs.unlisted in
    let check = runs.unchecked in
    let chances = runs.no_chances in
    grind arith

asks_undrawn : (t : Terminals) (o : Options) (r : Request) → Requests o r → false ≡ draws_seed t o r.mode
    → AsksAt t o None r
asks_undrawn t o r asks draws = record { asks = asks; draws = draws ∙ draws-wants t o r.mode asks.mode; small = tt }

asks_drawn : (t : Terminals) (o : Options) (r : Request) (seed : ℕ) → Requests o r → true ≡ draws_seed t o r.mode
    → seed ≤ 999999
    → AsksAt t o (Some seed) (record r { mode = modes.Seeded seed })
asks_drawn t o r seed asks draws small =
    let wants : true ≡ wants_seed t o = draws ∙ draws-wants t o r.mode asks.mode in
    let list : o.list ≡ false = grind arith in
    let check : o.check ≡ false = grind arith in
    let chances : o.chances ≡ false = grind arith in
    let runs : RunsIt o = record { unlisted = list; unchecked = check; no_chances = chances } in
    let every : o.all ≡ false = grind arith in
    let answers : o.answers ≡ None = grind arith in
    let undrawn : o.seed ≡ None = grind arith in
    record {
      asks = record {
        clash = clash_drawn o seed runs every answers asks.clash;
        rules = record { limit = asks.rules.limit; choose = asks.rules.choose };
        memory = asks.memory;
        mode = (
          record { unlisted = list; unchecked = check; no_chances = chances },
          every,
          refl,
          unsampled o runs every undrawn asks.clash,
        );
      };
      draws = wants;
      small = small;
    }

pub asks_at : (t : Terminals) (o : Options) (r : Request) (drawn : Option ℕ) → Requests o r
    → is_some drawn ≡ draws_seed t o r.mode → IfSome drawn (λ seed. seed ≤ 999999)
    → AsksAt t o drawn (by_seed r drawn)
asks_at t o r None asks draws small = asks_undrawn t o r asks draws
asks_at t o r (Some seed) asks draws small = asks_drawn t o r seed asks draws small
