-- This file proves whether a text spells a list, by its items.
-- Main lemmas: `list_of_items` and `mistake_at`.
use Rattle.std.proofs.Common.{◌≡◌, ◌≢◌, ◌∙◌, ap, sym, subst, refl, ℕ, ◌+◌, ◌<◌, Bool, false, true}
use Rattle.std.proofs.Common.{IfSome, List, [], ◌∷◌, ◌++◌, length, get_or, take, drop, map}
use Rattle.std.proofs.Common.{take-append-drop, drop-cons, add-one, ℤ, Option, Some, None}
use Rattle.std.specs.Prelude.{All, codes, is_some, IsSome}
use Rattle.std.proofs.lemmas.Bool.{false≢true}
use Rattle.std.proofs.lemmas.List.{length-map, map-append}
use Rattle.std.proofs.lemmas.List.Elements.{All-head, All-tail, All-cons, All-nil, All-push}
use Rattle.std.specs.Borrow.{Bor}
use Rattle.ptb_answers.specs.declared.form.Marked.{Marked}
use Rattle.ptb_answers.specs.AnswerText.{item_text, unmarked, without_bound}
use Rattle.ptb_options.specs.AnswerLists.{IsItem, SpellsItem, SpellsList}
use Rattle.ptb_options.specs.ListMistakes.{IsItemMistake, IsItemOf, IsListOf, IsListMistake, list_pieces}
use Rattle.ptb_options.specs.declared.mistakes.BoundRule.{BoundRule}
use Rattle.ptb_options.specs.declared.mistakes.BoundRule.TheVariants.{Allowed, Refused}
use Rattle.ptb_options.specs.declared.mistakes.ListMistake.{ListMistake}
use Rattle.ptb_options.specs.declared.mistakes.ItemMistake.{ItemMistake}
use Rattle.ptb_options.specs.declared.mistakes.ItemMistake.TheVariants.{HasBound, NotANumber}
use Rattle.ptb_options.proofs.AnswerTexts.{list_of_words, one_item, word_of_items, word_of_list}

-- ---- one item

-- a text that is no item, with a bound or without
pub no_item : (bounds : BoundRule) (w : List ℕ) → ((m : Marked) → SpellsItem w m → ⊥)
    → IsItemMistake bounds w NotANumber
no_item Allowed w none = record { refused = λ item. none item.0 item.1; why = none }
no_item Refused w none = record { refused = λ item. none (without_bound item.0) item.1; why = none }

bound_is : (m : Marked) (k : ℤ) → m ≡ without_bound k → IsSome m.bound → ⊥
bound_is m k e has = false≢true (sym (ap (λ (j : Marked). is_some j.bound) e) ∙ has)

-- an item with its bound, where it may have none
pub marked_item : (w : List ℕ) (m : Marked) → SpellsItem w m → IsSome m.bound → IsItemMistake Refused w HasBound
marked_item w m spells has = record {
  refused =
      λ item. bound_is m item.0 (one_item m (without_bound item.0) spells.0 item.1.0 (spells.1 ∙ sym item.1.1)) has;
  why = (m, spells, has);
}

-- ---- all of them

record IsGathered (ws : List (List ℕ)) (list : List Marked) : Type 0 where
  each : All IsItem list
  words : ws ≡ map item_text list

gathered_more : (w : List ℕ) (m : Marked) (ws : List (List ℕ)) (list : List Marked) → SpellsItem w m
    → IsGathered ws list → IsGathered (w ∷ ws) (m ∷ list)
gathered_more w m ws list spells rest = record {
  each = All-cons IsItem m list spells.0 rest.each;
  words = ap (λ (v : List ℕ). v ∷ ws) (sym spells.1) ∙ ap (λ (vs : List (List ℕ)). item_text m ∷ vs) rest.words;
}

gathered : (ws : List (List ℕ)) → All (IsItemOf Allowed) ws → (list : List Marked) × IsGathered ws list
gathered [] each = ([], record { each = All-nil IsItem; words = refl })
gathered (w ∷ ws) each =
    let item = All-head (IsItemOf Allowed) w ws each in
    let rest = gathered ws (All-tail (IsItemOf Allowed) w ws each) in
    (item.0 ∷ rest.0, gathered_more w item.0 ws rest.0 item.1 rest.1)

gathered_answers : (ws : List (List ℕ)) → All (IsItemOf Refused) ws → (a : List ℤ) × IsGathered ws (unmarked a)
gathered_answers [] each = ([], record { each = All-nil IsItem; words = refl })
gathered_answers (w ∷ ws) each =
    let item = All-head (IsItemOf Refused) w ws each in
    let rest = gathered_answers ws (All-tail (IsItemOf Refused) w ws each) in
    (item.0 ∷ rest.0, gathered_more w (without_bound item.0) ws (unmarked rest.0) item.1 rest.1)

-- a text whose pieces are items spells a list
pub list_of_items : (bounds : BoundRule) (s : List ℕ) → All (IsItemOf bounds) (list_pieces s) → IsListOf bounds s
list_of_items Allowed s each = let found = gathered (list_pieces s) each in
    (found.0, list_of_words s found.0 found.1.each found.1.words)
list_of_items Refused s each =
    let found = gathered_answers (list_pieces s) each in
    (found.0, list_of_words s (unmarked found.0) found.1.each found.1.words)

-- and one of which a piece is none doesn't
pub no_list : (bounds : BoundRule) (s : List ℕ) (i : ℕ) (w : List ℕ) → s ≢ codes "none" → i < length (list_pieces s)
    → w ≡ get_or (list_pieces s) i w → (IsItemOf bounds w → ⊥) → IsListOf bounds s → ⊥
no_list Allowed s i w some within at refused list = refused (word_of_list s list.0 i w some list.1 within at)
no_list Refused s i w some within at refused list =
    refused (word_of_items without_bound s list.0 i w some list.1 within at)

-- the pieces of a text, split at one of them
pub pieces_split : (all front : List (List ℕ)) (i : ℕ) (w : List ℕ) → front ≡ take i all → i < length all
    → w ≡ get_or all i w → all ≡ front ++ w ∷ drop (i + 1) all
pieces_split all front i w so_far within at =
    sym (take-append-drop i all)
    ∙ ap (λ (xs : List (List ℕ)). take i all ++ xs) (drop_at_one ∙ ap (λ (v : List ℕ). v ∷ drop (i + 1) all) (sym at))
    ∙ ap (λ (xs : List (List ℕ)). xs ++ w ∷ drop (i + 1) all) (sym so_far)
  where
    drop_at_one : drop i all ≡ get_or all i w ∷ drop (i + 1) all
    drop_at_one = rw (add-one, drop-cons all i w) refl

-- the text `none` spells the empty list
pub none_is_list_of : (bounds : BoundRule) (s : List ℕ) → SpellsList s [] → IsListOf bounds s
none_is_list_of Allowed s empty = ([], empty)
none_is_list_of Refused s empty = ([], empty)

-- one more item
pub items_more : (bounds : BoundRule) (ys : List (Bor (List ℕ))) (w : Bor (List ℕ))
    → All (IsItemOf bounds) (map (λ v. v.now) ys) → IsItemOf bounds w.now
    → All (IsItemOf bounds) (map (λ v. v.now) (ys ++ w ∷ []))
items_more bounds ys w each item =
    subst (All (IsItemOf bounds)) (sym (map-append (λ (v : Bor (List ℕ)). v.now) ys (w ∷ [])))
    (All-push (IsItemOf bounds) (map (λ v. v.now) ys) w.now each item)

-- the first faulty item, after items that are right
pub mistake_at : (bounds : BoundRule) (s : List ℕ) (ys : List (Bor (List ℕ))) (w : Bor (List ℕ)) (n : ℕ)
    (mistake : ItemMistake)
    → s ≢ codes "none"
    → map (λ v. v.now) ys ≡ take (length ys) (list_pieces s) → length ys < length (list_pieces s)
    → w.now ≡ get_or (list_pieces s) (length ys) w.now
    → All (IsItemOf bounds) (map (λ v. v.now) ys) → n ≡ length ys → IsItemMistake bounds w.now mistake
    → IsListMistake bounds s (record { item = n + 1; text = w; mistake = mistake })
mistake_at bounds s ys w n mistake some so_far within at each counted faulty = record {
  not_list = no_list bounds s (length ys) w.now some within at faulty.refused;
  before = map (λ v. v.now) ys;
  after = drop (length ys + 1) (list_pieces s);
  place = pieces_split (list_pieces s) (map (λ v. v.now) ys) (length ys) w.now so_far within at;
  items = each;
  counted = ap (λ (k : ℕ). k + 1) (counted ∙ sym (length-map ys (λ (v : Bor (List ℕ)). v.now)));
  mistake = faulty;
}

-- whether a mistake was found
pub none_found : (found : Option ListMistake) (b : Bool) → b ≡ is_some found → b ≡ false → found ≡ None
none_found None b told is = refl
none_found (Some m) b told is = absurd (false≢true (sym is ∙ told))

pub found_is_none : (bounds : BoundRule) (s : List ℕ) (found : Option ListMistake) (b : Bool) → b ≡ is_some found
    → b ≡ true
    → IfSome found (IsListMistake bounds s) → IsListOf bounds s → ⊥
found_is_none bounds s None b told is h = absurd (false≢true (sym told ∙ is))
found_is_none bounds s (Some m) b told is h = h.not_list
