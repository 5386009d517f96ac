-- This file proves what is at a place of a statement, by what is found there.
-- Main lemma: `command_word`.
use Rattle.std.proofs.Common.{◌≡◌, ℕ, List, [], ◌∷◌, Some, None, ap, ◌∙◌, ◌≤◌, length, arith, unwrap_or}
use Rattle.ptb_text.specs.declared.word.Table.TheVariants.{Commands}
use Rattle.ptb_text.specs.declared.word.Word.{Word}
use Rattle.ptb_text.specs.declared.word.Word.TheVariants.{LetKw}
use Rattle.ptb_text.specs.Words.{word_at, token_at, Quotation, QuotedText, quotation_at}
use Rattle.ptb_text.specs.FoundParts.{LiesAhead}
use Rattle.ptb_command.specs.Commands.{or_quotation, string_at, command_by, command_at}
use Rattle.ptb_command.specs.ReadCommands.{IsFirstWord}

-- ---- strings

pub string_return : (t : List ℕ) (i j : ℕ) → token_at 95 t i ≡ Some j → string_at t i ≡ QuotedText (13 ∷ []) j
unfolding string_at
string_return t i j e = ap (λ o. or_quotation o (quotation_at t i)) e

pub string_quoted : (t : List ℕ) (i : ℕ) (q : Quotation) → token_at 95 t i ≡ None → quotation_at t i ≡ q
    → string_at t i ≡ q
unfolding string_at
string_quoted t i q e k = ap (λ o. or_quotation o (quotation_at t i)) e ∙ k

-- ---- words

pub command_word : (t : List ℕ) (i : ℕ) (word : Word) (j : ℕ) → word_at Commands t i ≡ Some (word, j) → LiesAhead t i j
    → IsFirstWord t i word j
unfolding command_at
command_word t i word j e l = record {
  there = ap (λ o. unwrap_or o (LetKw, i)) e;
  command = ap (command_by t i) e;
  from = omega (arith, l.after);
  within = l.within;
}

pub no_command_word : (t : List ℕ) (i : ℕ) → word_at Commands t i ≡ None → i ≤ length t → IsFirstWord t i LetKw i
unfolding command_at
no_command_word t i e h = record {
  there = ap (λ o. unwrap_or o (LetKw, i)) e;
  command = ap (command_by t i) e;
  from = omega arith;
  within = h;
}
