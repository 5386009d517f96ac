-- This file proves that each command of a program has no mistake, or its mistake is reported.
-- Main lemmas: `command_told` and `jump_told`.
use Rattle.std.proofs.Common.{◌≡◌, ◌∙◌, ◌⊎◌, ℕ, zero, suc, Bool, true, false, cond, List, [], ◌∷◌, ◌++◌}
use Rattle.std.proofs.Common.{Option, Some, None, IsSome, sym, ap, subst, refl, append_assoc, inl}
use Rattle.std.proofs.Common.{inr, slice_get}
use Rattle.std.specs.Prelude.{ℤ, flat_map, unwrap_or}
use Rattle.std.specs.Ordering.{nat_cmp, eq_by_cmp}
use Rattle.std.specs.Cmp.{unsigned_tied}
use Rattle.std.proofs.lemmas.Bool.{eqb-true}
use Rattle.std.proofs.lemmas.Option.{same_Some, none-some}
use Rattle.ptb_text.specs.declared.word.Table.TheVariants.{Commands}
use Rattle.ptb_text.specs.declared.word.Word.{Word}
use Rattle.ptb_text.specs.declared.word.Word.TheVariants.{GotoKw, GosubKw, LetKw}
use Rattle.ptb_text.specs.Words.{past_blanks, word_at}
use Rattle.ptb_text.specs.Statements.{Statements, text_at}
use Rattle.ptb_expr.specs.declared.fault.Fault.{Fault}
use Rattle.ptb_expr.specs.declared.fault.FaultKind.TheVariants.{How}
use Rattle.ptb_expr.specs.Reading.{Reading, Whole, Malformed, item_of}
use Rattle.ptb_expr.specs.Spells.{SpellingLaws}
use Rattle.ptb_expr.specs.Tree.{Num}
use Rattle.ptb_expr.specs.Value.{fault}
use Rattle.ptb_command.specs.Commands.{Part, Operand, Command, command_by, command_at, commands, commands_from}
use Rattle.ptb_command.specs.Commands.{command_round}
use Rattle.ptb_command.specs.Items.{items, items_within}
use Rattle.ptb_command.specs.CommandLaws.{CommandLaws}
use Rattle.ptb_command.specs.State.{Place, command_there, statement, text_of, next_command, command_or_next}
use Rattle.ptb_command.specs.State.{first_command, placed_at, place_after}
use Rattle.ptb_check.specs.Laws.{IsAmong, IsJumpNowhere, IsMistakeOf, IsReported}
use Rattle.ptb_check.specs.Mistakes.{Mistake, parts_fault, jump_number, unless_there, jump_mistake, parts_mistake}
use Rattle.ptb_check.specs.Mistakes.{command_mistake, mistake_in, statement_mistakes, mistakes}
use Rattle.ptb_check.proofs.Parts.{parts_tell}
use Rattle.ptb_check.proofs.Readings.{Tells}

-- ---- what is among others

among_later : {X : Type 0} (y : X) (xs : List X) (x : X) → IsAmong xs x → IsAmong (y ∷ xs) x
among_later y xs x h = record { before = y ∷ h.before; after = h.after; split = ap (λ l. y ∷ l) h.split }

among_first : {X : Type 0} (xs ys : List X) (x : X) → IsAmong xs x → IsAmong (xs ++ ys) x
among_first xs ys x h = record {
  before = h.before;
  after = h.after ++ ys;
  split = ap (λ l. l ++ ys) h.split ∙ append_assoc h.before (x ∷ h.after) ys;
}

among_second : {X : Type 0} (xs ys : List X) (x : X) → IsAmong ys x → IsAmong (xs ++ ys) x
among_second [] ys x h = h
among_second (y ∷ xs) ys x h = among_later y (xs ++ ys) x (among_second xs ys x h)

-- what is in the list of one of several is in the list of all
among_each : {X Y : Type 0} (f : X → List Y) (before after : List X) (x : X) (y : Y) → IsAmong (f x) y
    → IsAmong (flat_map f (before ++ x ∷ after)) y
among_each f [] after x y h = among_first (f x) (flat_map f after) y h
among_each f (z ∷ before) after x y h =
    among_second (f z) (flat_map f (before ++ x ∷ after)) y (among_each f before after x y h)

among_all : {X Y : Type 0} (f : X → List Y) (xs : List X) (x : X) (y : Y) → IsAmong xs x → IsAmong (f x) y
    → IsAmong (flat_map f xs) y
among_all f xs x y h k = subst (λ l. IsAmong (flat_map f l) y) (sym h.split) (among_each f h.before h.after x y k)

at_index : {X : Type 0} (xs : List X) (k : ℕ) (x : X) → slice_get xs k ≡ Some x → IsAmong xs x
at_index [] k x e = absurd cc
at_index (y ∷ xs) zero x e = let same : y ≡ x = cc in record { before = []; after = xs; split = ap (λ z. z ∷ xs) same }
at_index (y ∷ xs) (suc k) x e = among_later y xs x (at_index xs k x e)

-- ---- statements and commands

found : (p : Statements) (n : ℕ) (t : List ℕ) → text_at p n ≡ Some t → IsAmong p (n, t)
found [] n t e = absurd cc
found (s ∷ p) n t e = by_number (eq_by_cmp nat_cmp n s.0) refl e (found p n t)
  where
    by_number : (b : Bool) → eq_by_cmp nat_cmp n s.0 ≡ b → cond b (Some s.1) (text_at p n) ≡ Some t
        → (text_at p n ≡ Some t → IsAmong p (n, t)) → IsAmong (s ∷ p) (n, t)
    by_number true h d others =
        let number : n ≡ s.0 = eqb-true n s.0 (sym (unsigned_tied n s.0) ∙ h) in
        let text : s.1 ≡ t = cc in
        record { before = []; after = p; split = ap (λ m. (m, s.1) ∷ p) (sym number) ∙ ap (λ u. (n, u) ∷ p) text }
    by_number false h d others = among_later s p (n, t) (others d)

no_commands : commands [] ≡ []
unfolding items_within items command_round commands_from past_blanks
no_commands = refl

none_there : (k : ℕ) (c : Command) → slice_get (commands []) k ≡ Some c → ⊥
none_there k c e = none-some c (sym (ap (λ cs. slice_get cs k) no_commands) ∙ e)

statement_there : (p : Statements) (q : Place) (c : Command) → command_there p q ≡ Some c
    → text_at p q.number ≡ Some (text_of p q.number)
statement_there p q c e = by_text (text_at p q.number) refl
  where
    by_text : (o : Option (List ℕ)) → text_at p q.number ≡ o → text_at p q.number ≡ Some (text_of p q.number)
    by_text (Some t) h = h ∙ ap (λ o. Some (unwrap_or o [])) (sym h)
    by_text None h = absurd (none_there q.index c (ap (λ o. slice_get (commands (unwrap_or o [])) q.index) (sym h) ∙ e))

abbrev mistake_at : Statements → Place → Fault → Mistake
mistake_at p q f = record { number = q.number; text = text_of p q.number; fault = f }

alone : (p : Statements) (q : Place) (c : Command) (f : Fault) → command_mistake p c ≡ Some f
    → IsAmong (mistake_in (q.number, text_of p q.number) (command_mistake p c)) (mistake_at p q f)
alone p q c f is =
    subst (λ o. IsAmong (mistake_in (q.number, text_of p q.number) o) (mistake_at p q f)) (sym is)
    (record { before = []; after = []; split = refl })

in_all : (p : Statements) (q : Place) (c : Command) (f : Fault) → IsAmong p (q.number, text_of p q.number)
    → IsAmong (commands (text_of p q.number)) c → command_mistake p c ≡ Some f → IsAmong (mistakes p) (mistake_at p q f)
in_all p q c f statement there is =
    among_all (statement_mistakes p) p (q.number, text_of p q.number) (mistake_at p q f) statement
    (among_all (λ d. mistake_in (q.number, text_of p q.number) (command_mistake p d)) (commands (text_of p q.number)) c
    (mistake_at p q f) there (alone p q c f is))

-- the fault of a jump to a written number that no statement has
nowhere_mistakes : (p : Statements) (kind : Word) (n : ℤ) (e : ℕ) → (kind ≡ GotoKw) ⊎ (kind ≡ GosubKw)
    → statement p n ≡ None → parts_mistake p kind (Whole (Operand (Num n) ∷ []) e) ≡ Some (fault How e)
nowhere_mistakes p kind n e (inl k) h =
    ap (λ w. jump_mistake p e (jump_number w (Operand (Num n) ∷ []))) k ∙ ap (unless_there e) h
nowhere_mistakes p kind n e (inr k) h =
    ap (λ w. jump_mistake p e (jump_number w (Operand (Num n) ∷ []))) k ∙ ap (unless_there e) h

pub jump_told : (p : Statements) (q : Place) (c : Command) → command_there p q ≡ Some c → (jump : IsJumpNowhere p c)
    → IsAmong (mistakes p) (mistake_at p q (fault How jump.end))
jump_told p q c e jump =
    in_all p q c (fault How jump.end) (found p q.number (text_of p q.number) (statement_there p q c e))
    (at_index (commands (text_of p q.number)) q.index c e)
    (ap (parts_mistake p c.kind) jump.whole ∙ nowhere_mistakes p c.kind jump.number jump.end jump.kind jump.nowhere)

module _ (spelling : SpellingLaws) (laws : CommandLaws) where
  command_tells : (t : List ℕ) (b : ℕ) → Tells parts_fault (command_at t b).parts
  unfolding command_at
  command_tells t b = by_word (word_at Commands t b)
    where
      by_word : (o : Option (Word × ℕ)) → Tells parts_fault (command_by t b o).parts
      by_word (Some w) = parts_tell spelling laws t w.0 w.1
      by_word None = parts_tell spelling laws t LetKw b

  there_tells : (p : Statements) (q : Place) (c : Command) → command_there p q ≡ Some c → Tells parts_fault c.parts
  there_tells p q c e =
      let begins = laws.begins (text_of p q.number) q.index c e in
      subst (λ d. Tells parts_fault d.parts) begins.3 (command_tells (text_of p q.number) begins.0)

  pub command_told : (p : Statements) (q : Place) (c : Command) → command_there p q ≡ Some c → IsReported p q c
  command_told p q c e = by_parts c.parts refl (there_tells p q c e)
    where
      told : (f : Fault) → command_mistake p c ≡ Some f → IsMistakeOf p q c
      told f is = record {
        fault = f;
        is = is;
        reported =
            in_all p q c f (found p q.number (text_of p q.number) (statement_there p q c e))
            (at_index (commands (text_of p q.number)) q.index c e) is;
      }

      by_fault : (parts : List Part) (o : Option Fault) → c.parts ≡ Malformed parts → parts_fault parts ≡ o → IsSome o
          → IsReported p q c
      by_fault parts (Some f) d h s = inr (told f (ap (λ r. command_mistake p (record c { parts = r })) d ∙ h))
      by_fault parts None d h s = cc s

      by_mistake : (parts : List Part) (j : ℕ) (o : Option Fault) → c.parts ≡ Whole parts j → command_mistake p c ≡ o
          → IsReported p q c
      by_mistake parts j (Some f) d h = inr (told f h)
      by_mistake parts j None d h =
          inl (record { end = j; whole = d ∙ ap (λ x. Whole x j) (sym (ap item_of d)); clean = h })

      by_parts : (r : Reading (List Part)) → c.parts ≡ r → Tells parts_fault r → IsReported p q c
      by_parts (Whole parts j) d h = by_mistake parts j (command_mistake p c) d refl
      by_parts (Malformed parts) d h = by_fault parts (parts_fault parts) d refl h

-- ---- the next command

placed : (p : Statements) (q r : Place) (o : Option Command) (c : Command) → command_there p q ≡ o
    → placed_at q o ≡ Some (r, c) → command_there p r ≡ Some c
placed p q r (Some d) c e h =
    let both : (q, d) ≡ (r, c) = same_Some (q, d) (r, c) h in
    let same : q ≡ r = ap (λ z. z.0) both in
    let command : d ≡ c = ap (λ z. z.1) both in
    ap (command_there p) (sym same) ∙ e ∙ ap Some command
placed p q r None c e h = absurd cc

next_there : (p : Statements) (q r : Place) (o : Option Command) (c : Command) → command_there p q ≡ o
    → command_or_next p q o ≡ Some (r, c) → command_there p r ≡ Some c
next_there p q r (Some d) c e h = placed p q r (Some d) c e h
next_there p q r None c e h = by_place (place_after p q.number) h
  where
    by_place : (o : Option Place) → first_command p o ≡ Some (r, c) → command_there p r ≡ Some c
    by_place (Some s) d = placed p s r (command_there p s) c refl d
    by_place None d = absurd cc

pub next_is_there : (p : Statements) (place : Option Place) (r : Place) (c : Command)
    → next_command p place ≡ Some (r, c) → command_there p r ≡ Some c
unfolding next_command
next_is_there p None r c h = absurd cc
next_is_there p (Some q) r c h = next_there p q r (command_there p q) c refl h
