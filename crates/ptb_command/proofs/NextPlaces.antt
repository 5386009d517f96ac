-- This file proves at which place the run continues after a command.
-- Main lemma: `follows_there`.
use Rattle.std.proofs.Common.{◌≡◌, ℕ, ◌+◌, Bool, true, false, List, Some, None, refl, sym, ap, subst, ◌∙◌, inl, inr}
use Rattle.std.specs.Prelude.{◌||◌, is_some}
use Rattle.std.proofs.lemmas.Bool.{false≢true}
use Rattle.ptb_text.specs.declared.word.Word.{Word}
use Rattle.ptb_text.specs.Statements.{Statements}
use Rattle.ptb_text.specs.Words.{is_over, token_at}
use Rattle.ptb_expr.specs.Evaluation.{IsWhole}
use Rattle.ptb_command.specs.Commands.{Command, command_of, parts_of, next_start, command_and}
use Rattle.ptb_command.specs.Commands.{after_command, command_unless, command_round}
use Rattle.ptb_command.specs.State.{Place, next_index}
use Rattle.ptb_command.specs.Places.{IsSamePlace}
use Rattle.ptb_command.specs.CommandLaws.{CommandLaws}
use Rattle.ptb_command.specs.ReadCommands.{IsClosed, NextBegins}
use Rattle.ptb_command.specs.Locations.{PlaceIs}
use Rattle.ptb_command.specs.Representation.{Begun}

-- the words of the commands after which `;` begins the next one
pub record ChecksEnd (word : Word) : Type 0 where
  pub next : (t : List ℕ) (e : ℕ) → next_start word t e ≡ token_at 59 t e

-- ---- rounds of commands

module _ (laws : CommandLaws) (p : Statements) (q : Place) (k : ℕ) (t : List ℕ) (word : Word) (i : ℕ)
    (begun : Begun p q k t word i) where
  -- the round that reads the command
  pub begun_round : (e : ℕ) → IsWhole (parts_of word t i) e
      → command_round t begun.start ≡ command_and (command_of word (parts_of word t i)) e (next_start word t e)
  unfolding command_round
  begun_round e whole =
      ap (command_unless t begun.start) begun.more
      ∙ ap (λ (c : Command). after_command t c c.parts) begun.command
      ∙ ap (after_command t (command_of word (parts_of word t i))) whole

  -- another command follows it
  pub next_there : (e j : ℕ) → IsWhole (parts_of word t i) e → next_start word t e ≡ Some j
      → PlaceIs p (next_index q) (record { statement = k; offset = j })
  next_there e j whole n = record {
    statement = begun.statement;
    at = subst (λ (x : List ℕ). IsSamePlace x (q.index + 1) j) (sym begun.text)
        (laws.at_next t q.index begun.start j _ begun.at
        (begun_round e whole ∙ ap (command_and (command_of word (parts_of word t i)) e) n));
  }

  -- it is the last one
  pub none_there : (e : ℕ) → IsWhole (parts_of word t i) e → next_start word t e ≡ None → is_over t e ≡ true
      → PlaceIs p (next_index q) (record { statement = k; offset = e })
  none_there e whole n over = record {
    statement = begun.statement;
    at = subst (λ (x : List ℕ). IsSamePlace x (q.index + 1) e) (sym begun.text)
        (laws.at_last t q.index begun.start e _ begun.at
        (begun_round e whole ∙ ap (command_and (command_of word (parts_of word t i)) e) n) over);
  }

  over_there : (a b : Bool) → (a || b) ≡ true → b ≡ false → a ≡ true
  over_there true b h k = refl
  over_there false b h k = absurd (false≢true (sym k ∙ h))

  -- the place after a command that checks for its end
  pub follows_there : (e j : ℕ) → ChecksEnd word → IsClosed t i (parts_of word t i) e → NextBegins t e j
      → PlaceIs p (next_index q) (record { statement = k; offset = j })
  follows_there e j checks closed (inl f) = next_there e j closed.whole (checks.next t e ∙ f)
  follows_there e j checks closed (inr f) =
      subst (λ (x : ℕ). PlaceIs p (next_index q) (record { statement = k; offset = x })) (sym f.1)
      (none_there e closed.whole (checks.next t e ∙ f.0)
      (over_there (is_over t e) (is_some (token_at 59 t e)) closed.ends (ap is_some f.0)))
