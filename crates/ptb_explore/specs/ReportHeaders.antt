-- This file defines the header of a report as far as its items, and what is kept of it.
-- Main definition: `header_prefix`.
--     header_prefix items      the header up to the end of these items
--     marked_of kept             the item that is kept
--     marked_items kept            the items that are kept
--     AreEnds kept             each item has the number of bytes that the header has up to its end
--     BeginsWith text prefix   the text has this prefix
use Rattle.std.specs.Prelude.{◌≡◌, ℕ, ◌+◌, ◌<◌, List, [], ◌∷◌, ◌++◌, codes, get_or, length, map, take}
use Rattle.ptb_answers.specs.declared.form.Marked.{Marked}
use Rattle.ptb_answers.specs.AnswerText.{spelling}
use Rattle.ptb_explore.specs.declared.kept_items.KeptItem.{KeptItem}

-- items joined by commas, of which there may be none
abbrev pub joined_items : List Marked → List ℕ
joined_items [] = []
joined_items (m ∷ list) = spelling (m ∷ list)

abbrev pub header_prefix : List Marked → List ℕ
header_prefix items = codes "RUN " ++ joined_items items

abbrev pub marked_of : KeptItem → Marked
marked_of kept = record { answer = kept.answer; bound = kept.bound }

abbrev pub marked_items : List KeptItem → List Marked
marked_items kept = map marked_of kept

abbrev pub AreEnds : List KeptItem → Type 0
AreEnds kept = (k : ℕ) (x : KeptItem) → k < length kept
    → (get_or kept k x).end ≡ length (header_prefix (take (k + 1) (marked_items kept)))

abbrev pub BeginsWith : List ℕ → List ℕ → Type 0
BeginsWith text prefix = take (length prefix) text ≡ prefix
