-- This file proves how the loops and calls of a state lie beside what is open in a machine.
-- Main lemma: `loop_found`.
use Rattle.std.proofs.Common.{◌≡◌, ℕ, ◌+◌, Bool, true, false, cond, List, [], ◌∷◌, length}
use Rattle.std.proofs.Common.{refl, sym, ap, subst, ◌∙◌, Option, Some, None, arith}
use Rattle.std.specs.Prelude.{◌==◌, not, filter, nat_le, sum_by}
use Rattle.std.proofs.lemmas.List.Sums.{sum_by-cons}
use Rattle.ptb_text.specs.Statements.{Statements}
use Rattle.ptb_command.specs.State.{State, Loop, Call, nesting_limit}
use Rattle.ptb_command.specs.Act.{is_full, loops_from}
use Rattle.ptb_command.specs.declared.location.Location.{Location}
use Rattle.ptb_command.specs.declared.stack.OpenLoop.{OpenLoop}
use Rattle.ptb_command.specs.declared.stack.Open.{Open}
use Rattle.ptb_command.specs.declared.stack.Open.TheVariants as opens
use Rattle.ptb_command.specs.Stacks.{call_of, loop_of, without}
use Rattle.ptb_command.specs.Configuration.{Configuration}
use Rattle.ptb_command.proofs.FoundLoops.{some_none, same_pair}
use Rattle.ptb_command.specs.Locations.{PlaceIs}
use Rattle.ptb_command.specs.Representation.{LoopIs, Nested, Represents}

-- ---- calls

pub no_calls : (p : Statements) (os : List Open) (loops : List Loop) (calls : List Call) → Nested p os loops calls
    → call_of os ≡ None → calls ≡ []
no_calls p [] [] [] n e = refl
no_calls p [] [] (c ∷ calls) n e = absurd n
no_calls p [] (l ∷ loops) calls n e = absurd n
no_calls p (opens.Loop m ∷ os) [] calls n e = absurd n
no_calls p (opens.Loop m ∷ os) (l ∷ loops) calls n e = no_calls p os loops calls n.1 e
no_calls p (opens.Call back ∷ os) loops calls n e = absurd (cc)

-- the newest call, and what is open below it
pub record Newest (p : Statements) (back : Location) (below : List Open) (calls : List Call) : Type 0 where
  pub call : Call
  pub others : List Call
  pub are : calls ≡ call ∷ others
  pub place : PlaceIs p call.back back
  pub nested : Nested p below call.loops others

pub newest_call : (p : Statements) (os : List Open) (loops : List Loop) (calls : List Call) (back : Location)
    (below : List Open)
    → Nested p os loops calls → call_of os ≡ Some (back, below) → Newest p back below calls
newest_call p [] loops calls back below n e = absurd (cc)
newest_call p (opens.Loop m ∷ os) [] calls back below n e = absurd n
newest_call p (opens.Loop m ∷ os) (l ∷ loops) calls back below n e = newest_call p os loops calls back below n.1 e
newest_call p (opens.Call b ∷ os) [] [] back below n e = absurd n
newest_call p (opens.Call b ∷ os) [] (c ∷ calls) back below n e =
    let x : b ≡ back = ap (λ (o : Option (Location × List Open)). elim o [ Some x ↦ x.0 | None ↦ b ]) e in
    let y : os ≡ below = ap (λ (o : Option (Location × List Open)). elim o [ Some x ↦ x.1 | None ↦ os ]) e in
    record {
      call = c;
      others = calls;
      are = refl;
      place = subst (PlaceIs p c.back) x n.0;
      nested = subst (λ (z : List Open). Nested p z c.loops calls) y n.1;
    }
newest_call p (opens.Call b ∷ os) (l ∷ loops) calls back below n e = absurd n

-- as many as are open
pub nested_len : (p : Statements) (os : List Open) (loops : List Loop) (calls : List Call) → Nested p os loops calls
    → length loops + sum_by (λ c. length c.loops + 1) calls ≡ length os
nested_len p [] [] [] n = refl
nested_len p [] [] (c ∷ calls) n = absurd n
nested_len p [] (l ∷ loops) calls n = absurd n
nested_len p (opens.Loop m ∷ os) [] calls n = absurd n
nested_len p (opens.Loop m ∷ os) (l ∷ loops) calls n = omega (arith, nested_len p os loops calls n.1)
nested_len p (opens.Call b ∷ os) [] [] n = absurd n
nested_len p (opens.Call b ∷ os) [] (c ∷ calls) n =
    omega (arith, nested_len p os c.loops calls n.1, sum_by-cons (λ (c : Call). length c.loops + 1) c calls)
nested_len p (opens.Call b ∷ os) (l ∷ loops) calls n = absurd n

-- where all that may be open is open, nothing more may be
pub fullness : (p : Statements) (m : Configuration) (S : State) (b : Bool) → Represents p m S
    → nat_le nesting_limit (length m.stack) ≡ b → is_full S ≡ b
fullness p m S b s k = ap (nat_le nesting_limit) (nested_len p m.stack S.loops S.calls s.levels) ∙ k

-- ---- loops

abbrev others : ℕ → List Loop → List Loop
others x loops = filter (λ l. not (l.letter == x)) loops

-- one loop more, by whether it is the variable's
one_more : (p : Statements) (x : ℕ) (m : OpenLoop) (os : List Open) (l : Loop) (loops : List Loop) (calls : List Call)
    (b : Bool)
    → (m.letter == x) ≡ b → (l.letter == x) ≡ b → LoopIs p l m → Nested p (without x os) (others x loops) calls
    → Nested p (without x (opens.Loop m ∷ os)) (others x (l ∷ loops)) calls
one_more p x m os l loops calls true e k i n = rw (e, k) n
one_more p x m os l loops calls false e k i n = rw (e, k) (i, n)

pub nested_without : (p : Statements) (x : ℕ) (os : List Open) (loops : List Loop) (calls : List Call)
    → Nested p os loops calls → Nested p (without x os) (others x loops) calls
nested_without p x [] [] [] n = tt
nested_without p x [] [] (c ∷ calls) n = absurd n
nested_without p x [] (l ∷ loops) calls n = absurd n
nested_without p x (opens.Loop m ∷ os) [] calls n = absurd n
nested_without p x (opens.Loop m ∷ os) (l ∷ loops) calls n =
    one_more p x m os l loops calls (m.letter == x) refl (ap (λ (y : ℕ). y == x) n.0.letter) n.0
    (nested_without p x os loops calls n.1)
nested_without p x (opens.Call b ∷ os) [] [] n = absurd n
nested_without p x (opens.Call b ∷ os) [] (c ∷ calls) n = n
nested_without p x (opens.Call b ∷ os) (l ∷ loops) calls n = absurd n

-- the loop of a variable, and what is open below it
pub record Found (p : Statements) (x : ℕ) (m : OpenLoop) (below : List Open) (loops : List Loop)
    (calls : List Call) : Type 0 where
  pub loop : Loop
  pub rest : List Loop
  pub are : loops_from x loops ≡ loop ∷ rest
  pub is : LoopIs p loop m
  pub nested : Nested p below rest calls

skipped : (x : ℕ) (l : Loop) (loops : List Loop) → (l.letter == x) ≡ false
    → loops_from x (l ∷ loops) ≡ loops_from x loops
skipped x l loops e = ap (λ (b : Bool). cond b (l ∷ loops) (loops_from x loops)) e

call_no_loops : (p : Statements) (b : _) (os : List Open) (l : Loop) (loops : List Loop) (calls : List Call)
    → Nested p (opens.Call b ∷ os) (l ∷ loops) calls → ⊥
call_no_loops p b os l loops calls n = n

pub no_loop : (p : Statements) (x : ℕ) (os : List Open) (loops : List Loop) (calls : List Call)
    → Nested p os loops calls → loop_of x os ≡ None → loops_from x loops ≡ []
no_loop p x [] [] [] n e = refl
no_loop p x [] [] (c ∷ calls) n e = refl
no_loop p x [] (l ∷ loops) calls n e = absurd n
no_loop p x (opens.Loop m ∷ os) [] calls n e = refl
no_loop p x (opens.Loop m ∷ os) (l ∷ loops) calls n e =
    elim (m.letter == x) as (λ (b : Bool). (m.letter == x) ≡ b → loops_from x (l ∷ loops) ≡ []) [
      | true ↦ λ k. absurd (some_none (sym (ap (λ (b : Bool). cond b (Some (m, os)) (loop_of x os)) k) ∙ e))
      | false ↦ λ k. skipped x l loops (ap (λ (y : ℕ). y == x) n.0.letter ∙ k)
          ∙ no_loop p x os loops calls n.1 (sym (ap (λ (b : Bool). cond b (Some (m, os)) (loop_of x os)) k) ∙ e)
    ] refl
no_loop p x (opens.Call b ∷ os) [] calls n e = refl
no_loop p x (opens.Call b ∷ os) (l ∷ loops) calls n e = absurd (call_no_loops p b os l loops calls n)

pub loop_found : (p : Statements) (x : ℕ) (os : List Open) (loops : List Loop) (calls : List Call) (m' : OpenLoop)
    (below : List Open)
    → Nested p os loops calls → loop_of x os ≡ Some (m', below) → Found p x m' below loops calls
loop_found p x [] loops calls m' below n e = absurd (some_none (sym e))
loop_found p x (opens.Loop m ∷ os) [] calls m' below n e = absurd n
loop_found p x (opens.Loop m ∷ os) (l ∷ loops) calls m' below n e =
    elim (m.letter == x) as (λ (b : Bool). (m.letter == x) ≡ b → Found p x m' below (l ∷ loops) calls) [
      | true ↦ λ k.
          let q = same_pair m m' os below (sym (ap (λ (b : Bool). cond b (Some (m, os)) (loop_of x os)) k) ∙ e) in
          record {
            loop = l;
            rest = loops;
            are = ap (λ (b : Bool). cond b (l ∷ loops) (loops_from x loops)) (ap (λ (y : ℕ). y == x) n.0.letter ∙ k);
            is = subst (LoopIs p l) q.0 n.0;
            nested = subst (λ (z : List Open). Nested p z loops calls) q.1 n.1;
          }
      | false ↦ λ k.
          let f = loop_found p x os loops calls m' below n.1
          (sym (ap (λ (b : Bool). cond b (Some (m, os)) (loop_of x os)) k) ∙ e) in
          record {
            loop = f.loop;
            rest = f.rest;
            are = skipped x l loops (ap (λ (y : ℕ). y == x) n.0.letter ∙ k) ∙ f.are;
            is = f.is;
            nested = f.nested;
          }
    ] refl
loop_found p x (opens.Call b ∷ os) loops calls m' below n e = absurd (some_none (sym e))
