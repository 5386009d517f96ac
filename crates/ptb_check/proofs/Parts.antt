-- This file proves that malformed parts of a command have a fault, and whole ones have none.
-- Main lemma: `parts_tell`.
use Rattle.std.proofs.Common.{◌≡◌, ◌∙◌, ℕ, zero, suc, Bool, true, false, cond, List, [], length}
use Rattle.std.proofs.Common.{Option, Some, None, IsSome, sym, subst, refl, arith}
use Rattle.std.specs.Prelude.{◌-◌, ◌<◌, pos}
use Rattle.ptb_text.specs.declared.word.Table.TheVariants.{To, Step}
use Rattle.ptb_text.specs.declared.word.Word.{Word}
use Rattle.ptb_text.specs.declared.word.Word.TheVariants.{NextKw, IfKw, GotoKw, GosubKw, ReturnKw}
use Rattle.ptb_text.specs.declared.word.Word.TheVariants.{RemKw, ForKw, InputKw, PrintKw, StopKw}
use Rattle.ptb_text.specs.Words.{is_over, word_at, token_at, letter_at, Quotation, NoQuote, OpenQuote, QuotedText}
use Rattle.ptb_expr.specs.declared.fault.FaultKind.TheVariants.{What}
use Rattle.ptb_expr.specs.Reading.{Reading, Whole, Malformed, after, map_reading, expression, variable_tree}
use Rattle.ptb_expr.specs.Spells.{SpellingLaws}
use Rattle.ptb_expr.specs.Tree.{Tree, Num, Var, Bad}
use Rattle.ptb_expr.specs.Value.{fault}
use Rattle.ptb_command.specs.Commands.{Part, Assign, Width, Show, NewLine, Take, Letter, Operand}
use Rattle.ptb_command.specs.Commands.{command_ends, defect, end_check, over_check, part_and, after_part}
use Rattle.ptb_command.specs.Commands.{comma_round, value_part, assignment, string_at}
use Rattle.ptb_command.specs.Commands.{string_or_value, width_or, print_item, next_item, after_item}
use Rattle.ptb_command.specs.Commands.{item_round, print_parts_if, print_parts, variable_begins}
use Rattle.ptb_command.specs.Commands.{variable_item, string_item, input_item_by, input_item}
use Rattle.ptb_command.specs.Commands.{step_by, step_parts, limit_by, limit_parts, first_parts}
use Rattle.ptb_command.specs.Commands.{for_by, for_parts, next_by, next_parts, parts_of}
use Rattle.ptb_command.specs.Items.{Round, Last, Onward, in_front, with_others, items_within, items, Advances}
use Rattle.ptb_command.specs.CommandLaws.{CommandLaws}
use Rattle.ptb_check.specs.Mistakes.{part_fault, parts_fault}
use Rattle.ptb_expr.specs.WrittenExpressions.{written_fault}
use Rattle.ptb_check.proofs.Readings.{Tells, some_first, some_second, none_both, expression_tells, variable_tells}

-- ---- one part and the others

pub front_tells : (part : Part) (r : Reading (List Part)) → part_fault part ≡ None → Tells parts_fault r
    → Tells parts_fault (in_front part r)
front_tells part (Whole parts j) e h = none_both (part_fault part) (parts_fault parts) e h
front_tells part (Malformed parts) e h = some_second (part_fault part) (parts_fault parts) h

-- a part made of a tree alone
mapped : (node : Tree → Part) (r : Reading Tree) → ((x : Tree) → part_fault (node x) ≡ written_fault x)
    → Tells written_fault r → Tells part_fault (map_reading node r)
mapped node (Whole x j) same h = same x ∙ h
mapped node (Malformed x) same h = subst IsSome (sym (same x)) h

part_and_tells : (node : Tree → Part) (r : Reading Tree) (next : ℕ → Reading (List Part))
    → ((x : Tree) → part_fault (node x) ≡ written_fault x) → Tells written_fault r
    → ((j : ℕ) → Tells parts_fault (next j)) → Tells parts_fault (part_and node r next)
part_and_tells node (Whole x j) next same h each = front_tells (node x) (next j) (same x ∙ h) (each j)
part_and_tells node (Malformed x) next same h each =
    some_first (part_fault (node x)) None (subst IsSome (sym (same x)) h)

-- ---- rounds

abbrev RoundTells : Round Part → Type 0
RoundTells (Last r) = Tells parts_fault r
RoundTells (Onward part j) = part_fault part ≡ None

module _ (t : List ℕ) (round : ℕ → Round Part) (advances : Advances t round) (tells : (i : ℕ)
    → RoundTells (round i)) where
  within_tells : (n i : ℕ) → length t - i < n → Tells parts_fault (items_within n round i)
  unfolding items_within
  within_tells zero i h = absurd (omega arith)
  within_tells (suc n) i h = go (round i) refl (tells i) (within_tells n)
    where
      go : (r : Round Part) → round i ≡ r → RoundTells r
          → ((j : ℕ) → length t - j < n → Tells parts_fault (items_within n round j))
          → Tells parts_fault (with_others (items_within n round) r)
      go (Last r) e a others = a
      go (Onward part j) e a others =
          let ahead = advances.ahead i j part e in
          let far = ahead.after in
          let near = ahead.within in
          front_tells part (items_within n round j) a (others j (omega (arith, h, far, near)))

  pub items_tell : (i : ℕ) → Tells parts_fault (items t round i)
  unfolding items
  items_tell i = within_tells (suc (length t)) i (omega arith)

module _ (spelling : SpellingLaws) (laws : CommandLaws) (t : List ℕ) where
  expressions : (i : ℕ) → Tells written_fault (expression t i)
  expressions i = expression_tells t spelling i

  variables : (i : ℕ) → Tells written_fault (variable_tree t i)
  variables i = variable_tells t spelling i

  -- ---- ends

  whole_or_defect : (i : ℕ) (b : Bool) → Tells parts_fault (cond b (Whole [] i) (defect i))
  whole_or_defect i true = refl
  whole_or_defect i false = refl

  end_tells : (i : ℕ) → Tells parts_fault (end_check t i)
  end_tells i = whole_or_defect i (command_ends t i)

  over_tells : (i : ℕ) → Tells parts_fault (over_check t i)
  over_tells i = whole_or_defect i (is_over t i)

  -- ---- LET and INPUT

  comma_tells : (r : Reading Part) → Tells part_fault r → RoundTells (comma_round t r)
  comma_tells (Malformed part) h = some_first (part_fault part) None h
  comma_tells (Whole part i) h = by_comma (token_at 44 t i)
    where
      by_comma : (o : Option ℕ) → RoundTells (after_part t part i o)
      by_comma (Some j) = h
      by_comma None = front_tells part (end_check t i) h (end_tells i)

  assigned : (x : Tree) (r : Reading Tree) → written_fault x ≡ None → Tells written_fault r
      → Tells part_fault (map_reading (Assign x) r)
  assigned x (Whole y j) e h = none_both (written_fault x) (written_fault y) e h
  assigned x (Malformed y) e h = some_second (written_fault x) (written_fault y) h

  value_tells : (x : Tree) (i : ℕ) (o : Option ℕ) → written_fault x ≡ None → Tells part_fault (value_part t x i o)
  value_tells x i (Some j) e = assigned x (expression t j) e (expressions j)
  value_tells x i None e = some_second (written_fault x) (Some (fault What i)) refl

  assignment_tells : (i : ℕ) → Tells part_fault (assignment t i)
  unfolding assignment
  assignment_tells i = by_variable (variable_tree t i) (variables i)
    where
      by_variable : (r : Reading Tree) → Tells written_fault r
          → Tells part_fault (after r (λ x. Assign x (Bad What i)) (λ x j. value_part t x j (token_at 61 t j)))
      by_variable (Whole x j) h = value_tells x j (token_at 61 t j) h
      by_variable (Malformed x) h = some_first (written_fault x) _ h

  input_tells : (i : ℕ) → Tells part_fault (input_item t i)
  unfolding input_item
  input_tells i = by_string (string_at t i)
    where
      by_begin : (s : List ℕ) (j : ℕ) (b : Bool) → Tells part_fault (string_item t s j b)
      by_begin s j true = mapped _ (variable_tree t j) (λ x. refl) (variables j)
      by_begin s j false = refl

      by_variable : (r : Reading Tree) (f : ℕ → List ℕ) → Tells written_fault r
          → Tells part_fault (after r (λ x. Take [] x []) (λ x j. Whole (Take [] x (f j)) j))
      by_variable (Whole x j) f h = h
      by_variable (Malformed x) f h = h

      variable_or : (b : Bool) → Tells part_fault (variable_item t i b)
      variable_or true = by_variable (variable_tree t i) _ (variables i)
      variable_or false = refl

      by_string : (q : Quotation) → Tells part_fault (input_item_by t i q)
      by_string (QuotedText s j) = by_begin s j (variable_begins t j)
      by_string OpenQuote = refl
      by_string NoQuote = variable_or (variable_begins t i)

  -- ---- PRINT

  print_item_tells : (i : ℕ) → Tells part_fault (print_item t i)
  unfolding print_item
  print_item_tells i = by_hash (token_at 35 t i)
    where
      by_string : (q : Quotation) → Tells part_fault (string_or_value t i q)
      by_string (QuotedText s j) = refl
      by_string OpenQuote = refl
      by_string NoQuote = mapped Show (expression t i) (λ x. refl) (expressions i)

      by_value : (r : Reading Tree) (j : ℕ) → Tells written_fault r
          → Tells part_fault (after r (λ x. Width x j) (λ x k. Whole (Width x k) k))
      by_value (Whole x k) j h = h
      by_value (Malformed x) j h = h

      by_hash : (o : Option ℕ) → Tells part_fault (width_or t i o)
      by_hash (Some j) = by_value (expression t j) j (expressions j)
      by_hash None = by_string (string_at t i)

  item_tells : (r : Reading Part) → Tells part_fault r → RoundTells (item_round t r)
  item_tells (Malformed part) h = some_first (part_fault part) None h
  item_tells (Whole part i) h = by_comma (token_at 44 t i)
    where
      by_next : (j : ℕ) (b : Bool) → RoundTells (next_item t part j b)
      by_next j true = none_both (part_fault part) None h refl
      by_next j false = h

      by_comma : (o : Option ℕ) → RoundTells (after_item t part i o)
      by_comma (Some j) = by_next j (command_ends t j)
      by_comma None =
          front_tells part (in_front NewLine (end_check t i)) h (front_tells NewLine (end_check t i) refl (end_tells i))

  print_tells : (i : ℕ) → Tells parts_fault (print_parts t i)
  unfolding print_parts
  print_tells i = by_end (command_ends t i)
    where
      by_end : (b : Bool) → Tells parts_fault (print_parts_if t i b)
      by_end true = refl
      by_end false = items_tell t _ (laws.print_advances t) (λ j. item_tells (print_item t j) (print_item_tells j)) i

  -- ---- FOR and NEXT

  step_tells : (i : ℕ) → Tells parts_fault (step_parts t i)
  unfolding step_parts
  step_tells i = by_word (word_at Step t i)
    where
      by_word : (o : Option (Word × ℕ)) → Tells parts_fault (step_by t i o)
      by_word (Some w) = part_and_tells Operand (expression t w.1) (end_check t) (λ x. refl) (expressions w.1) end_tells
      by_word None = front_tells (Operand (Num (pos 1))) (end_check t i) refl (end_tells i)

  limit_tells : (i : ℕ) → Tells parts_fault (limit_parts t i)
  unfolding limit_parts
  limit_tells i = by_word (word_at To t i)
    where
      by_word : (o : Option (Word × ℕ)) → Tells parts_fault (limit_by t i o)
      by_word (Some w) =
          part_and_tells Operand (expression t w.1) (step_parts t) (λ x. refl) (expressions w.1) step_tells
      by_word None = refl

  first_tells : (x i : ℕ) (o : Option ℕ) → Tells parts_fault (first_parts t x i o)
  first_tells x i (Some j) =
      part_and_tells (Assign (Var x)) (expression t j) (limit_parts t) (λ y. refl) (expressions j) limit_tells
  first_tells x i None = refl

  for_tells : (i : ℕ) → Tells parts_fault (for_parts t i)
  unfolding for_parts
  for_tells i = by_letter (letter_at t i)
    where
      by_letter : (o : Option (ℕ × ℕ)) → Tells parts_fault (for_by t i o)
      by_letter (Some x) =
          front_tells (Letter x.0) (first_parts t x.0 x.1 (token_at 61 t x.1)) refl
          (first_tells x.0 x.1 (token_at 61 t x.1))
      by_letter None = refl

  next_tells : (i : ℕ) → Tells parts_fault (next_parts t i)
  unfolding next_parts
  next_tells i = by_letter (letter_at t i)
    where
      by_letter : (o : Option (ℕ × ℕ)) → Tells parts_fault (next_by t i o)
      by_letter (Some x) = front_tells (Letter x.0) (end_check t x.1) refl (end_tells x.1)
      by_letter None = refl

  -- ---- all commands

  let_tells : (i : ℕ) → Tells parts_fault (items t (λ j. comma_round t (assignment t j)) i)
  let_tells i = items_tell t _ (laws.let_advances t) (λ j. comma_tells (assignment t j) (assignment_tells j)) i

  pub parts_tell : (w : Word) (i : ℕ) → Tells parts_fault (parts_of w t i)
  unfolding parts_of
  parts_tell RemKw i = refl
  parts_tell ReturnKw i = over_tells i
  parts_tell StopKw i = over_tells i
  parts_tell PrintKw i = print_tells i
  parts_tell InputKw i = items_tell t _ (laws.input_advances t) (λ j. comma_tells (input_item t j) (input_tells j)) i
  parts_tell IfKw i = part_and_tells Operand (expression t i) (Whole []) (λ x. refl) (expressions i) (λ j. refl)
  parts_tell GotoKw i = part_and_tells Operand (expression t i) (over_check t) (λ x. refl) (expressions i) over_tells
  parts_tell GosubKw i = part_and_tells Operand (expression t i) (end_check t) (λ x. refl) (expressions i) end_tells
  parts_tell ForKw i = for_tells i
  parts_tell NextKw i = next_tells i
  parts_tell _ i = let_tells i
