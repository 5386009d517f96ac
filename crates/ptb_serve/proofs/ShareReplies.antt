-- This file proves how the replies to shares of all runs fit together.
-- Main lemma: `splits_runs`.
use Rattle.std.proofs.Common.{◌≡◌, ◌∙◌, inl, inr, refl, ap, ap₂, sym, ℕ, zero, suc, ◌+◌, ◌<◌, ◌≤◌}
use Rattle.std.proofs.Common.{List, [], ◌∷◌, ◌++◌, length, true, Option, Some, None, append-nil}
use Rattle.std.proofs.Common.{arith}
use Rattle.std.specs.Prelude.{ℤ, pos, negsuc, int_le, map, Contains}
use Rattle.std.specs.List.{filter, flat_map, range_with_len}
use Rattle.std.proofs.lemmas.Bool.{and_from, le-leb}
use Rattle.ptb_text.specs.Lines.{input_lines}
use Rattle.ptb_text.specs.Statements.{StoredProgram}
use Rattle.ptb_answers.specs.Outcome.{Answers, Outcome, Asks, IsReader, bound_of, bounds, is_answer, is_open}
use Rattle.ptb_answers.proofs.PublicLemmas.{whole_is}
use Rattle.ptb_answers.specs.AnswerText.{answers_of, items_in, marked, unmarked, without_bound}
use Rattle.ptb_answers.specs.declared.form.Form.{Form}
use Rattle.ptb_answers.specs.declared.form.Form.TheVariants.{One, Two}
use Rattle.ptb_answers.specs.declared.form.Marked.{Marked}
use Rattle.ptb_answers.specs.declared.rules.Rules.{Rules}
use Rattle.ptb_machine.specs.Play.{Finish, play}
use Rattle.ptb_machine.specs.Questions.{most_answers}
use Rattle.ptb_explore.proofs.PublicLemmas.{IsIn, in_contained, same_from}
use Rattle.ptb_machine.proofs.PublicLemmas.{bounds-append, length-bounds}
use Rattle.ptb_explore.specs.Beginnings.{BeginningLaws, IsBeginning, beginnings}
use Rattle.ptb_explore.specs.Laws.{ListingLaws, ShareLaws}
use Rattle.ptb_explore.specs.Listing.{text}
use Rattle.ptb_explore.specs.MarkedRuns.{IsMarkedBeginning, IsMarkedRun, is_bound, states_bounds}
use Rattle.ptb_explore.specs.Report.{report}
use Rattle.ptb_machine.specs.RunTree.{Start, answers_to, is_left, runs_after, tree}
use Rattle.ptb_options.specs.declared.request.Mode.{Mode}
use Rattle.ptb_options.specs.declared.request.Mode.TheVariants as modes
use Rattle.ptb_serve.specs.Replies.{Reply, all_reply, shares_reply, reply_with}
use Rattle.ptb_serve.specs.ReplyLaws.{ShareReplies, SplitsRuns}
use Rattle.ptb_serve.proofs.Fronts.{begun_under, both_parts, both_true}
use Rattle.ptb_serve.proofs.ServedListings.{reply-listed}

-- ---- the answers to a question

same_branches : (f g : ℤ → List ℕ) (m n : ℕ) → ((k : ℕ) → m ≤ k → k < m + n → f (pos k) ≡ g (pos k))
    → flat_map f (map pos (range_with_len m n)) ≡ flat_map g (map pos (range_with_len m n))
same_branches f g m zero same = refl
same_branches f g m (suc n) same =
    ap₂ ◌++◌ (same m (omega arith) (omega arith))
    (same_branches f g (m + 1) n (λ k l u. same k (omega arith) (omega arith)))

-- texts that are the same for each answer are so for all of them
same_answers : (f g : ℤ → List ℕ) (n : ℤ) → ((k : ℤ) → is_answer n k ≡ true → f k ≡ g k)
    → flat_map f (answers_to n) ≡ flat_map g (answers_to n)
same_answers f g (pos n) same = same_branches f g 1 n (λ k l u. same (pos k)
    (and_from (int_le (pos 1) (pos k)) (int_le (pos k) (pos n)) (le-leb 1 k l) (le-leb k n (omega arith))))
same_answers f g (negsuc n) same = refl

-- ---- one answer more

answers_more : (list : List Marked) (k : ℤ) → answers_of (list ++ without_bound k ∷ []) ≡ answers_of list ++ k ∷ []
answers_more [] k = refl
answers_more (m ∷ list) k = ap (λ l. m.answer ∷ l) (answers_more list k)

-- no bound is stated of it
bounds_more : (list : List Marked) (bs : List ℤ) (k n : ℤ) → states_bounds list bs ≡ true
    → states_bounds (list ++ without_bound k ∷ []) (bs ++ n ∷ []) ≡ true
bounds_more [] [] k n h = refl
bounds_more [] (b ∷ bs) k n h = refl
bounds_more (m ∷ list) [] k n h = absurd cc
bounds_more (m ∷ list) (b ∷ bs) k n h = let p = both_parts (is_bound m.bound b) (states_bounds list bs) h in
    both_true (is_bound m.bound b) _ p.0 (bounds_more list bs k n p.1)

-- ---- the items of a line

answers_alone : (a : Answers) → answers_of (unmarked a) ≡ a
answers_alone [] = refl
answers_alone (k ∷ a) = ap (λ l. k ∷ l) (answers_alone a)

answers_marked : (a : Answers) (bs : List ℤ) → length bs ≡ length a → answers_of (marked a bs) ≡ a
answers_marked [] [] h = refl
answers_marked [] (b ∷ bs) h = absurd cc
answers_marked (k ∷ a) [] h = absurd cc
answers_marked (k ∷ a) (b ∷ bs) h = ap (λ l. k ∷ l) (answers_marked a bs (omega (arith, h)))

states_alone : (a : Answers) (bs : List ℤ) → length bs ≡ length a → states_bounds (unmarked a) bs ≡ true
states_alone [] bs h = refl
states_alone (k ∷ a) [] h = absurd cc
states_alone (k ∷ a) (b ∷ bs) h = states_alone a bs (omega (arith, h))

states_marked : (a : Answers) (bs : List ℤ) → length bs ≡ length a → states_bounds (marked a bs) bs ≡ true
states_marked [] bs h = refl
states_marked (k ∷ a) [] h = absurd cc
states_marked (k ∷ a) (b ∷ bs) h =
    both_true (is_bound (Some b) b) _ (same_from b) (states_marked a bs (omega (arith, h)))

items_answers : (form : Form) (a : Answers) (bs : List ℤ) → length bs ≡ length a → answers_of (items_in form a bs) ≡ a
items_answers One a bs h = answers_alone a
items_answers Two a bs h = answers_marked a bs h

items_state : (form : Form) (a : Answers) (bs : List ℤ) → length bs ≡ length a
    → states_bounds (items_in form a bs) bs ≡ true
items_state One a bs h = states_alone a bs h
items_state Two a bs h = states_marked a bs h

-- ---- texts one after the other

same_each : (f g : Answers → List ℕ) (list : List Answers) → ((u : Answers) → IsIn u list → f u ≡ g u)
    → flat_map f list ≡ flat_map g list
same_each f g [] same = refl
same_each f g (u ∷ list) same = ap₂ ◌++◌ (same u (inl refl)) (same_each f g list (λ v i. same v (inr i)))

-- before the first run all are left
all_left : (list : List Answers) → filter (is_left [] Start) list ≡ list
all_left [] = refl
all_left (a ∷ list) = ap (λ l. a ∷ l) (all_left list)

-- ---- the replies

module _ (p : StoredProgram) (c : List ℕ) (rules : Rules)
    (reads : IsReader (play p (input_lines c) rules) (most_answers p (input_lines c) rules.limit))
    (listing : ListingLaws (play p (input_lines c) rules) (most_answers p (input_lines c) rules.limit))
    (share : ShareLaws (play p (input_lines c) rules) (most_answers p (input_lines c) rules.limit))
    (reply : Mode → Reply)
    (all : (under after : Option (List Marked)) (first : Option ℕ) (form : Form)
    → reply (modes.All under after first form) ≡ all_reply p (input_lines c) rules under after first form) where
  abbrev game : Answers → Outcome Finish (List ℕ)
  game = play p (input_lines c) rules

  abbrev share_text : Form → Answers → List ℕ
  share_text form under =
      text (report form game) (runs_after game (most_answers p (input_lines c) rules.limit) under Start)

  reply_share : (under : List Marked) (form : Form) → IsMarkedBeginning game under
      → reply (modes.All (Some under) None None form) ≡ reply_with (share_text form (answers_of under))
  reply_share under form b =
      all (Some under) None None form
      ∙ reply-listed p rules (Some under) None None form (input_lines c) (begun_under game under b)

  -- each answer to a question makes a beginning one longer
  begins_more : (under : List Marked) (n k : ℤ) (shown : List ℕ) → IsMarkedBeginning game under
      → game (answers_of under) ≡ Asks n shown → is_answer n k ≡ true
      → IsMarkedBeginning game (under ++ without_bound k ∷ [])
  begins_more under n k shown b asks i =
      let is : answers_of (under ++ without_bound k ∷ []) ≡ answers_of under ++ k ∷ [] = answers_more under k in (
        ap (λ a. is_open (game a)) is ∙ reads.inside (answers_of under) n k shown asks i,
        ap (λ a. states_bounds (under ++ without_bound k ∷ []) (bounds game a)) is
            ∙ ap (states_bounds (under ++ without_bound k ∷ [])) (bounds-append game [] (answers_of under) (k ∷ []))
            ∙ bounds_more under (bounds game (answers_of under)) k (bound_of (game (answers_of under))) b.1,
      )

  question : (under : List Marked) (n : ℤ) (shown : List ℕ) (form : Form) → IsMarkedBeginning game under
      → game (answers_of under) ≡ Asks n shown
      → reply (modes.All (Some under) None None form) ≡ reply_with (flat_map
      (λ k. (reply (modes.All (Some (under ++ without_bound k ∷ [])) None None form)).bytes) (answers_to n))
  question under n shown form b asks =
      let more : (k : ℤ) → is_answer n k ≡ true → share_text form (answers_of under ++ k ∷ [])
      ≡ (reply (modes.All (Some (under ++ without_bound k ∷ [])) None None form)).bytes =
      λ k i. ap (share_text form) (sym (answers_more under k)) ∙ sym (ap (λ (r : Reply). r.bytes)
      (reply_share (under ++ without_bound k ∷ []) form (begins_more under n k shown b asks i))) in
      reply_share under form b
      ∙ ap reply_with
      (share.question (report form game) (answers_of under) n shown Start asks ∙ same_answers _ _ n more)

  run : (a : List Marked) (form : Form) → IsMarkedRun game a
      → reply (modes.All (Some a) None None form) ≡ reply_with (report form game (answers_of a))
  run a form r =
      let ends = whole_is (game (answers_of a)) r.0 in
      reply_share a form (ap is_open ends.1, r.1) ∙ ap reply_with
      (ap (text (report form game)) (share.run (answers_of a) r.0) ∙ append-nil (report form game (answers_of a)))

  pub share_replies : ((after : Option (List Marked)) (first : Option ℕ) (form : Form)
      → reply (modes.All (Some []) after first form) ≡ reply (modes.All None after first form))
      → ShareReplies game reply
  share_replies whole = record {
    beginning = λ under. ((share.beginning under).1, (share.beginning under).0);
    whole = whole;
    question = question;
    run = run;
    apart =
        λ u v a before r bu bv. share.apart u v a Start Start before
        ((listing.runs u Start a).1 (r, both_true _ _ bu refl)) ((listing.runs v Start a).1 (r, both_true _ _ bv refl));
  }

  -- ---- the lists that split all runs

  module _ (n : ℕ) (laws : BeginningLaws game (most_answers p (input_lines c) rules.limit) n) where
    abbrev items : Form → Answers → List Marked
    items form u = items_in form u (bounds game u)

    items_are : (form : Form) (u : Answers) → answers_of (items form u) ≡ u
    items_are form u = items_answers form u (bounds game u) (length-bounds game [] u)

    -- a run begins with them, or one more is asked for
    opens : (u : Answers) → IsBeginning n game u → is_open (game u) ≡ true
    opens u (inl ends) = ap is_open (whole_is (game u) ends.0).1
    opens u (inr asking) = ap is_open asking.1.2

    marks : (form : Form) (u : Answers) → Contains (beginnings n game) u → IsMarkedBeginning game (items form u)
    marks form u i = (
      ap (λ a. is_open (game a)) (items_are form u) ∙ opens u ((laws.lists u).0 i),
      ap (λ a. states_bounds (items form u) (bounds game a)) (items_are form u)
          ∙ items_state form u (bounds game u) (length-bounds game [] u),
    )

    each_share : (form shown : Form) (u : Answers) → IsIn u (beginnings n game)
        → share_text shown u ≡ (reply (modes.All (Some (items form u)) None None shown)).bytes
    each_share form shown u i =
        ap (share_text shown) (sym (items_are form u)) ∙ sym (ap (λ (r : Reply). r.bytes)
        (reply_share (items form u) shown (marks form u (in_contained u (beginnings n game) i))))

    joined : (form shown : Form)
        → reply (modes.All None None None shown) ≡ reply_with
        (flat_map (λ u. (reply (modes.All (Some (items form u)) None None shown)).bytes) (beginnings n game))
    joined form shown =
        all None None None shown ∙ reply-listed p rules None None None shown (input_lines c) refl
        ∙ ap reply_with
        (ap (text (report shown game)) (all_left (tree game (most_answers p (input_lines c) rules.limit)))
        ∙ sym (laws.whole_text (report shown game)) ∙ same_each _ _ (beginnings n game) (each_share form shown))

    pub splits_runs : ((form : Form) → reply (modes.Shares n form) ≡ shares_reply p (input_lines c) rules n form)
        → SplitsRuns game n reply
    splits_runs lines = record {
      lists = beginnings n game;
      rising = laws.order;
      members = laws.lists;
      apart = laws.apart;
      lines = lines;
      begins = marks;
      joined = joined;
    }
