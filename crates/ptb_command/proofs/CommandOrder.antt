-- This file proves that the parts of a command and the commands of a statement lie ahead, and within the text.
-- Main lemma: `commands_advance`.
use Rattle.std.proofs.Common.{◌≡◌, ℕ, zero, suc, Bool, true, false, cond, List, [], length, Option}
use Rattle.std.proofs.Common.{Some, None, refl, subst, arith}
use Rattle.ptb_text.specs.declared.word.Table.{Table}
use Rattle.ptb_text.specs.declared.word.Table.TheVariants.{Commands, To, Step}
use Rattle.ptb_text.specs.declared.word.Word.{Word}
use Rattle.ptb_text.specs.declared.word.Word.TheVariants.{NextKw, LetKw, IfKw, GotoKw, GosubKw}
use Rattle.ptb_text.specs.declared.word.Word.TheVariants.{ReturnKw, RemKw, ForKw, InputKw, PrintKw}
use Rattle.ptb_text.specs.declared.word.Word.TheVariants.{StopKw}
use Rattle.ptb_text.specs.Words.{is_over, word_at, token_at, letter_at, Quotation, NoQuote}
use Rattle.ptb_text.specs.Words.{OpenQuote, QuotedText, quotation_at}
use Rattle.ptb_text.specs.FoundParts.{LiesAhead, FindingLaws}
use Rattle.ptb_expr.specs.Tree.{Tree}
use Rattle.ptb_expr.specs.Reading.{Reading, Whole, Malformed, after, map_reading, expression, variable_tree}
use Rattle.ptb_expr.specs.Spells.{SpellingLaws}
use Rattle.ptb_command.specs.Items.{Round, Last, Onward, in_front, with_others, items_within, items, Advances, LiesOn}
use Rattle.ptb_command.specs.Commands.{Part, Assign, Show, NewLine, Letter, Operand, Command}
use Rattle.ptb_command.specs.Commands.{command_ends, defect, end_check, over_check, part_and, after_part}
use Rattle.ptb_command.specs.Commands.{comma_round, value_part, assignment, or_quotation, string_at}
use Rattle.ptb_command.specs.Commands.{string_or_value, width_or, print_item, next_item, after_item}
use Rattle.ptb_command.specs.Commands.{item_round, print_parts_if, print_parts, variable_item}
use Rattle.ptb_command.specs.Commands.{string_item, input_item_by, input_item, step_by, step_parts}
use Rattle.ptb_command.specs.Commands.{limit_by, limit_parts, first_parts, for_by, for_parts}
use Rattle.ptb_command.specs.Commands.{next_by, next_parts, parts_of, command_of, command_by}
use Rattle.ptb_command.specs.Commands.{command_at, next_start, command_and, after_command}
use Rattle.ptb_command.specs.Commands.{command_unless, command_round}

-- ---- places

module _ (t : List ℕ) where
  stays : (i : ℕ) → LiesOn t i i
  stays i = record { from = omega arith; within = λ h. h; settled = λ h. h }

  on_ahead : (i j : ℕ) → LiesAhead t i j → LiesOn t i j
  on_ahead i j a = let h = a.after in record { from = omega arith; within = λ _. a.within; settled = λ _. a.settled }

  on_on : (i j k : ℕ) → LiesOn t i j → LiesOn t j k → LiesOn t i k
  on_on i j k a b = let h = a.from in let g = b.from in
      record { from = omega arith; within = λ n. b.within (a.within n); settled = λ n. b.settled (a.settled n) }

  ahead_of : (i j k : ℕ) → LiesOn t i j → LiesAhead t j k → LiesAhead t i k
  ahead_of i j k a b = let h = a.from in let g = b.after in
      record { after = omega arith; within = b.within; settled = b.settled }

  further : (i j k : ℕ) → LiesAhead t i j → LiesAhead t j k → LiesAhead t i k
  further i j k a b = ahead_of i j k (on_ahead i j a) b

  on_from : (i j k : ℕ) → LiesAhead t i j → LiesOn t j k → LiesAhead t i k
  on_from i j k a b = let h = a.after in let g = b.from in
      record { after = omega arith; within = b.within a.within; settled = b.settled a.settled }

  -- ---- readings

  -- a whole reading ends ahead, or at least not before it began
  abbrev pub EndsAhead : {A : Type 0} → ℕ → Reading A → Type 0
  EndsAhead i (Whole x j) = LiesAhead t i j
  EndsAhead i (Malformed x) = Unit {0}

  abbrev pub EndsOn : {A : Type 0} → ℕ → Reading A → Type 0
  EndsOn i (Whole x j) = LiesOn t i j
  EndsOn i (Malformed x) = Unit {0}

  ends_on : {A : Type 0} (i : ℕ) (r : Reading A) → EndsAhead i r → EndsOn i r
  ends_on i (Whole x j) a = on_ahead i j a
  ends_on i (Malformed x) a = tt

  following : {A : Type 0} (i j : ℕ) (r : Reading A) → LiesAhead t i j → EndsAhead j r → EndsAhead i r
  following i j (Whole x k) a b = further i j k a b
  following i j (Malformed x) a b = tt

  on_after : {A : Type 0} (i j : ℕ) (r : Reading A) → LiesOn t i j → EndsOn j r → EndsOn i r
  on_after i j (Whole x k) a b = on_on i j k a b
  on_after i j (Malformed x) a b = tt

  after_ahead : {A B : Type 0} (i : ℕ) (r : Reading A) (wrap : A → B) (next : A → ℕ → Reading B) → EndsAhead i r
      → ((x : A) (j : ℕ) → LiesAhead t i j → EndsAhead i (next x j)) → EndsAhead i (after r wrap next)
  after_ahead i (Whole x j) wrap next a each = each x j a
  after_ahead i (Malformed x) wrap next a each = tt

  after_on : {A B : Type 0} (i : ℕ) (r : Reading A) (wrap : A → B) (next : A → ℕ → Reading B) → EndsOn i r
      → ((x : A) (j : ℕ) → EndsOn j (next x j)) → EndsOn i (after r wrap next)
  after_on i (Whole x j) wrap next a each = on_after i j (next x j) a (each x j)
  after_on i (Malformed x) wrap next a each = tt

  map_ahead : {A B : Type 0} (f : A → B) (i : ℕ) (r : Reading A) → EndsAhead i r → EndsAhead i (map_reading f r)
  map_ahead f i (Whole x j) a = a
  map_ahead f i (Malformed x) a = tt

  in_front_on : {X : Type 0} (x : X) (i : ℕ) (r : Reading (List X)) → EndsOn i r → EndsOn i (in_front x r)
  in_front_on x i (Whole xs j) a = a
  in_front_on x i (Malformed xs) a = tt

  -- ---- rounds

  -- a round ends no earlier than it began, and continues ahead
  abbrev pub RoundOn : {X : Type 0} → ℕ → Round X → Type 0
  RoundOn i (Last r) = EndsOn i r
  RoundOn i (Onward x j) = LiesAhead t i j

  pub advances : {X : Type 0} (round : ℕ → Round X) → ((i : ℕ) → RoundOn i (round i)) → Advances t round
  advances round on = record { ahead = λ i j x e. subst (RoundOn i) e (on i) }

  within_on : {X : Type 0} (n : ℕ) (round : ℕ → Round X) → ((i : ℕ) → RoundOn i (round i)) → (i : ℕ)
      → EndsOn i (items_within n round i)
  unfolding items_within
  within_on zero round on i = tt
  within_on (suc n) round on i = go (round i) (on i) (λ j. within_on n round on j)
    where
      go : (r : Round _) → RoundOn i r → ((j : ℕ) → EndsOn j (items_within n round j))
          → EndsOn i (with_others (items_within n round) r)
      go (Last r) a more = a
      go (Onward x j) a more =
          in_front_on x i (items_within n round j) (on_after i j (items_within n round j) (on_ahead i j a) (more j))

  pub items_on : {X : Type 0} (round : ℕ → Round X) → ((i : ℕ) → RoundOn i (round i)) → (i : ℕ)
      → EndsOn i (items t round i)
  unfolding items
  items_on round on i = within_on (suc (length t)) round on i

module _ (finding : FindingLaws) (spelling : SpellingLaws) (t : List ℕ) where
  tree_ends : (i : ℕ) (r : Reading Tree) → ((x : Tree) (j : ℕ) → r ≡ Whole x j → LiesAhead t i j) → EndsAhead t i r
  tree_ends i (Whole x j) ahead = ahead x j refl
  tree_ends i (Malformed x) ahead = tt

  expression_ends : (i : ℕ) → EndsAhead t i (expression t i)
  expression_ends i = tree_ends i (expression t i) (λ x j e. spelling.expression_ahead t i j x e)

  variable_ends : (i : ℕ) → EndsAhead t i (variable_tree t i)
  variable_ends i = tree_ends i (variable_tree t i) (λ x j e. spelling.variable_ahead t i j x e)

  expression_after : (i j : ℕ) → LiesAhead t i j → EndsAhead t i (expression t j)
  expression_after i j a = following t i j (expression t j) a (expression_ends j)

  variable_later : (i j : ℕ) → LiesAhead t i j → EndsAhead t i (variable_tree t j)
  variable_later i j a = following t i j (variable_tree t j) a (variable_ends j)

  -- ---- ends

  check_on : (i : ℕ) (b : Bool) → EndsOn t i (cond b (Whole [] i) (defect i))
  check_on i true = stays t i
  check_on i false = tt

  end_on : (i : ℕ) → EndsOn t i (end_check t i)
  end_on i = check_on i (command_ends t i)

  over_on : (i : ℕ) → EndsOn t i (over_check t i)
  over_on i = check_on i (is_over t i)

  -- ---- LET and INPUT

  -- a part that ends ahead, and a comma or an end
  comma_on : (i : ℕ) (r : Reading Part) → EndsAhead t i r → RoundOn t i (comma_round t r)
  comma_on i (Malformed part) a = tt
  comma_on i (Whole part j) a = by_comma (token_at 44 t j) refl
    where
      by_comma : (o : Option ℕ) → token_at 44 t j ≡ o → RoundOn t i (after_part t part j o)
      by_comma (Some k) e = further t i j k a (finding.token 44 t j k e)
      by_comma None e =
          in_front_on t part i (end_check t j) (on_after t i j (end_check t j) (on_ahead t i j a) (end_on j))

  assignment_ends : (i : ℕ) → EndsAhead t i (assignment t i)
  unfolding assignment
  assignment_ends i = after_ahead t i (variable_tree t i) _ _ (variable_ends i)
      (λ x j a. by_equals x j a (token_at 61 t j) refl)
    where
      by_equals : (x : Tree) (j : ℕ) → LiesAhead t i j → (o : Option ℕ) → token_at 61 t j ≡ o
          → EndsAhead t i (value_part t x j o)
      by_equals x j a (Some k) e = map_ahead t (Assign x) i (expression t k)
          (expression_after i k (further t i j k a (finding.token 61 t j k e)))
      by_equals x j a None e = tt

  pub let_advances : Advances t (λ j. comma_round t (assignment t j))
  let_advances = advances t _ (λ i. comma_on i (assignment t i) (assignment_ends i))

  -- where a string ends
  abbrev QuoteAhead : ℕ → Quotation → Type 0
  QuoteAhead i (QuotedText s j) = LiesAhead t i j
  QuoteAhead i OpenQuote = Unit {0}
  QuoteAhead i NoQuote = Unit {0}

  string_ends : (i : ℕ) → QuoteAhead i (string_at t i)
  unfolding string_at
  string_ends i = by_mark (token_at 95 t i) refl
    where
      by_quote : (q : Quotation) → quotation_at t i ≡ q → QuoteAhead i q
      by_quote (QuotedText s j) e = finding.quotation t i s j e
      by_quote OpenQuote e = tt
      by_quote NoQuote e = tt

      by_mark : (o : Option ℕ) → token_at 95 t i ≡ o → QuoteAhead i (or_quotation o (quotation_at t i))
      by_mark (Some j) e = finding.token 95 t i j e
      by_mark None e = by_quote (quotation_at t i) refl

  input_item_ends : (i : ℕ) → EndsAhead t i (input_item t i)
  unfolding input_item
  input_item_ends i = by_string (string_at t i) (string_ends i)
    where
      by_said : (s : List ℕ) (j : ℕ) (b : Bool) → LiesAhead t i j → EndsAhead t i (string_item t s j b)
      by_said s j true a = map_ahead t _ i (variable_tree t j) (variable_later i j a)
      by_said s j false a = a

      by_variable : (b : Bool) → EndsAhead t i (variable_item t i b)
      by_variable true = after_ahead t i (variable_tree t i) _ _ (variable_ends i) (λ x j a. a)
      by_variable false = tt

      by_string : (q : Quotation) → QuoteAhead i q → EndsAhead t i (input_item_by t i q)
      by_string (QuotedText s j) a = by_said s j _ a
      by_string OpenQuote a = tt
      by_string NoQuote a = by_variable _

  pub input_advances : Advances t (λ j. comma_round t (input_item t j))
  input_advances = advances t _ (λ i. comma_on i (input_item t i) (input_item_ends i))

  -- ---- PRINT

  print_item_ends : (i : ℕ) → EndsAhead t i (print_item t i)
  unfolding print_item
  print_item_ends i = by_width (token_at 35 t i) refl
    where
      by_string : (q : Quotation) → QuoteAhead i q → EndsAhead t i (string_or_value t i q)
      by_string (QuotedText s j) a = a
      by_string OpenQuote a = tt
      by_string NoQuote a = map_ahead t Show i (expression t i) (expression_ends i)

      by_width : (o : Option ℕ) → token_at 35 t i ≡ o → EndsAhead t i (width_or t i o)
      by_width (Some j) e = after_ahead t i (expression t j) _ _ (expression_after i j (finding.token 35 t i j e))
          (λ x k a. a)
      by_width None e = by_string (string_at t i) (string_ends i)

  item_on : (i : ℕ) (r : Reading Part) → EndsAhead t i r → RoundOn t i (item_round t r)
  item_on i (Malformed part) a = tt
  item_on i (Whole part j) a = by_comma (token_at 44 t j) refl
    where
      by_next : (k : ℕ) (b : Bool) → LiesAhead t i k → RoundOn t i (next_item t part k b)
      by_next k true a = on_ahead t i k a
      by_next k false a = a

      by_comma : (o : Option ℕ) → token_at 44 t j ≡ o → RoundOn t i (after_item t part j o)
      by_comma (Some k) e = by_next k _ (further t i j k a (finding.token 44 t j k e))
      by_comma None e = in_front_on t part i _
          (in_front_on t NewLine i (end_check t j) (on_after t i j (end_check t j) (on_ahead t i j a) (end_on j)))

  pub print_advances : Advances t (λ j. item_round t (print_item t j))
  print_advances = advances t _ (λ i. item_on i (print_item t i) (print_item_ends i))

  -- ---- all parts

  part_and_on : (node : Tree → Part) (i : ℕ) (r : Reading Tree) (next : ℕ → Reading (List Part)) → EndsOn t i r
      → ((j : ℕ) → EndsOn t j (next j)) → EndsOn t i (part_and node r next)
  part_and_on node i r next a each = after_on t i r _ _ a (λ x j. in_front_on t (node x) j (next j) (each j))

  expression_on : (i j : ℕ) → LiesOn t i j → EndsOn t i (expression t j)
  expression_on i j a = on_after t i j (expression t j) a (ends_on t j (expression t j) (expression_ends j))

  -- what there is after a word, or where it is missing
  word_on : (table : Table) (i : ℕ) (f : Option (Word × ℕ) → Reading (List Part))
      → ((w : Word × ℕ) → LiesAhead t i w.1 → EndsOn t i (f (Some w))) → EndsOn t i (f None)
      → EndsOn t i (f (word_at table t i))
  word_on table i f there missing = by_word (word_at table t i) refl
    where
      by_word : (o : Option (Word × ℕ)) → word_at table t i ≡ o → EndsOn t i (f o)
      by_word (Some w) e = there w (finding.word table t i w.0 w.1 e)
      by_word None e = missing

  step_on : (i : ℕ) → EndsOn t i (step_parts t i)
  unfolding step_parts
  step_on i = word_on Step i (step_by t i)
      (λ w a. part_and_on Operand i (expression t w.1) (end_check t) (expression_on i w.1 (on_ahead t i w.1 a)) end_on)
      (in_front_on t _ i (end_check t i) (end_on i))

  limit_on : (i : ℕ) → EndsOn t i (limit_parts t i)
  unfolding limit_parts
  limit_on i = word_on To i (limit_by t i)
      (λ w a. part_and_on Operand i (expression t w.1) (step_parts t) (expression_on i w.1 (on_ahead t i w.1 a))
      step_on)
      tt

  first_on : (x i : ℕ) → EndsOn t i (first_parts t x i (token_at 61 t i))
  first_on x i = by_equals (token_at 61 t i) refl
    where
      by_equals : (o : Option ℕ) → token_at 61 t i ≡ o → EndsOn t i (first_parts t x i o)
      by_equals (Some j) e = part_and_on _ i (expression t j) (limit_parts t)
          (expression_on i j (on_ahead t i j (finding.token 61 t i j e))) limit_on
      by_equals None e = tt

  -- the same of a letter
  letter_on : (i : ℕ) (f : Option (ℕ × ℕ) → Reading (List Part))
      → ((x : ℕ × ℕ) → LiesOn t i x.1 → EndsOn t i (f (Some x))) → EndsOn t i (f None)
      → EndsOn t i (f (letter_at t i))
  letter_on i f there missing = by_letter (letter_at t i) refl
    where
      by_letter : (o : Option (ℕ × ℕ)) → letter_at t i ≡ o → EndsOn t i (f o)
      by_letter (Some x) e = there x (on_ahead t i x.1 (finding.letter t i x.0 x.1 e))
      by_letter None e = missing

  for_on : (i : ℕ) → EndsOn t i (for_parts t i)
  unfolding for_parts
  for_on i = letter_on i (for_by t i)
      (λ x a. let r = first_parts t x.0 x.1 (token_at 61 t x.1) in
      in_front_on t (Letter x.0) i r (on_after t i x.1 r a (first_on x.0 x.1)))
      tt

  next_on : (i : ℕ) → EndsOn t i (next_parts t i)
  unfolding next_parts
  next_on i = letter_on i (next_by t i)
      (λ x a. in_front_on t (Letter x.0) i (end_check t x.1) (on_after t i x.1 (end_check t x.1) a (end_on x.1))) tt

  print_on : (i : ℕ) → EndsOn t i (print_parts t i)
  unfolding print_parts
  print_on i = by_end (command_ends t i)
    where
      by_end : (b : Bool) → EndsOn t i (print_parts_if t i b)
      by_end true = stays t i
      by_end false = items_on t _ (λ j. item_on j (print_item t j) (print_item_ends j)) i

  let_on : (i : ℕ) → EndsOn t i (items t (λ j. comma_round t (assignment t j)) i)
  let_on i = items_on t _ (λ j. comma_on j (assignment t j) (assignment_ends j)) i

  pub parts_on : (w : Word) (i : ℕ) → EndsOn t i (parts_of w t i)
  unfolding parts_of
  parts_on RemKw i = stays t i
  parts_on ReturnKw i = over_on i
  parts_on StopKw i = over_on i
  parts_on PrintKw i = print_on i
  parts_on InputKw i = items_on t _ (λ j. comma_on j (input_item t j) (input_item_ends j)) i
  parts_on IfKw i = part_and_on Operand i (expression t i) (Whole []) (expression_on i i (stays t i)) (stays t)
  parts_on GotoKw i = part_and_on Operand i (expression t i) (over_check t) (expression_on i i (stays t i)) over_on
  parts_on GosubKw i = part_and_on Operand i (expression t i) (end_check t) (expression_on i i (stays t i)) end_on
  parts_on ForKw i = for_on i
  parts_on NextKw i = next_on i
  parts_on _ i = let_on i

  -- ---- commands

  -- a command with a word takes a byte, and so does what is between two commands
  next_ahead : (w : Word) (i e j : ℕ) → LiesAhead t i e → next_start w t e ≡ Some j → LiesAhead t i j
  next_ahead RemKw i e j a h = absurd cc
  next_ahead GotoKw i e j a h = absurd cc
  next_ahead ReturnKw i e j a h = absurd cc
  next_ahead StopKw i e j a h = absurd cc
  next_ahead IfKw i e j a h = let same : e ≡ j = cc in subst (LiesAhead t i) same a
  next_ahead _ i e j a h = further t i e j a (finding.token 59 t e j h)

  after_command_on : (c : Command) (i : ℕ) (r : Reading (List Part)) → EndsOn t i r
      → ((parts : List Part) (e j : ℕ) → r ≡ Whole parts e → next_start c.kind t e ≡ Some j → LiesAhead t i j)
      → RoundOn t i (after_command t c r)
  after_command_on c i (Malformed parts) a next = tt
  after_command_on c i (Whole parts e) a next = by_begin (next_start c.kind t e) (λ j h. next parts e j refl h)
    where
      by_begin : (o : Option ℕ) → ((j : ℕ) → o ≡ Some j → LiesAhead t i j) → RoundOn t i (command_and c e o)
      by_begin (Some j) next = next j refl
      by_begin None next = a

  command_on : (i : ℕ) → RoundOn t i (after_command t (command_at t i) (command_at t i).parts)
  unfolding command_at
  command_on i = by_word (word_at Commands t i) refl
    where
      ends : (w : Word) (k : ℕ) (parts : List Part) (e : ℕ) → parts_of w t k ≡ Whole parts e → LiesOn t k e
      ends w k parts e h = subst (EndsOn t k) h (parts_on w k)

      by_word : (o : Option (Word × ℕ)) → word_at Commands t i ≡ o
          → RoundOn t i (after_command t (command_by t i o) (command_by t i o).parts)
      by_word (Some w) e =
          let a = finding.word Commands t i w.0 w.1 e in
          after_command_on (command_of w.0 (parts_of w.0 t w.1)) i (parts_of w.0 t w.1)
          (on_after t i w.1 (parts_of w.0 t w.1) (on_ahead t i w.1 a) (parts_on w.0 w.1))
          (λ parts e j h n. next_ahead w.0 i e j (on_from t i w.1 e a (ends w.0 w.1 parts e h)) n)
      by_word None e =
          after_command_on (command_of LetKw (parts_of LetKw t i)) i (parts_of LetKw t i) (parts_on LetKw i)
          (λ parts e j h n. ahead_of t i e j (ends LetKw i parts e h) (finding.token 59 t e j n))

  pub commands_on : (i : ℕ) → RoundOn t i (command_round t i)
  unfolding command_round
  commands_on i = by_over (is_over t i)
    where
      by_over : (b : Bool) → RoundOn t i (command_unless t i b)
      by_over true = stays t i
      by_over false = command_on i

  pub commands_advance : Advances t (command_round t)
  commands_advance = advances t (command_round t) commands_on

  pub parts_end : (w : Word) (i e : ℕ) (parts : List Part) → parts_of w t i ≡ Whole parts e → LiesOn t i e
  parts_end w i e parts h = subst (EndsOn t i) h (parts_on w i)
