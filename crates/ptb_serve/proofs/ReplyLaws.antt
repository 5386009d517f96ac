-- This file proves the laws of replies.
-- Main lemma: `reply_laws`.
use Rattle.std.proofs.Common.{◌≡◌, refl, sym, ap, ◌∙◌, ℕ, ◌<◌, List, [], ◌∷◌, length, Bool, true}
use Rattle.std.proofs.Common.{false, Option, Some, None, Ok, Err, ◌↔◌}
use Rattle.std.proofs.lemmas.Bool.{lt-ltb}
use Rattle.ptb_text.specs.declared.fault.LoadFault.{LoadFault}
use Rattle.ptb_text.specs.declared.fault.LoadFault.TheVariants.{TooLong}
use Rattle.ptb_text.specs.Lines.{input_lines}
use Rattle.ptb_text.specs.Statements.{Statements, StoredProgram, program, program_limit}
use Rattle.ptb_answers.specs.Outcome.{Answers, Outcome, IsReader, bounds}
use Rattle.ptb_machine.specs.Laws.{RunLaws}
use Rattle.ptb_answers.specs.declared.rules.Rules.{Rules}
use Rattle.ptb_machine.specs.Play.{Finish, play}
use Rattle.ptb_machine.specs.Questions.{most_answers}
use Rattle.ptb_answers.specs.declared.form.Form.{Form}
use Rattle.ptb_answers.specs.declared.form.Marked.{Marked}
use Rattle.ptb_answers.specs.AnswerText.{answers_of, items_in}
use Rattle.ptb_explore.specs.Beginnings.{BeginningLaws}
use Rattle.ptb_explore.specs.Laws.{ListingLaws, ReportLaws, ShareLaws, TreeLaws}
use Rattle.ptb_explore.specs.Report.{report_of}
use Rattle.ptb_explore.specs.Samples.{SampleLaws}
use Rattle.ptb_answers.specs.DrawnAnswers.{sampled_runs}
use Rattle.ptb_answers.specs.Seeds.{generator_after, generator_of}
use Rattle.ptb_explore.specs.Openings.{first_front}
use Rattle.ptb_machine.specs.RunTree.{IsRun, Before, begins_with, is_left, runs_after}
use Rattle.ptb_serve.specs.declared.note.Note.{Note}
use Rattle.ptb_serve.specs.declared.note.Note.TheVariants as notes
use Rattle.ptb_options.specs.declared.request.Mode.{Mode}
use Rattle.ptb_options.specs.declared.request.Mode.TheVariants as modes
use Rattle.ptb_options.specs.declared.request.Request.{Request}
use Rattle.ptb_chances.specs.TableLaws.{TableLaws}
use Rattle.ptb_check.specs.Laws.{CheckLaws}
use Rattle.ptb_check.specs.Mistakes.{Mistake, mistakes}
use Rattle.ptb_check.specs.WrittenMistakes.{has_any}
use Rattle.ptb_machine.specs.SeededRuns.{SeededLaws, seeded_answers}
use Rattle.ptb_serve.specs.Replies.{Reply, refusal, plain_reply, seeded_reply, share_prefix}
use Rattle.ptb_serve.specs.Replies.{front_note, is_front, note_of, all_reply}
use Rattle.ptb_serve.specs.Replies.{chances_reply, check_reply, check_status, listing_reply}
use Rattle.ptb_serve.specs.Replies.{runs_drawn, sample_reply, shares_reply, program_of_text}
use Rattle.ptb_serve.specs.Replies.{reply_or_refusal, program_reply, reply_in_mode}
use Rattle.ptb_serve.specs.ReplyLaws.{ChecksText, ListsRuns, RunReplies, RunsBySeed, SamplesBySeed, ReplyLaws}
use Rattle.ptb_serve.proofs.Fronts.{begun_after, begun_both, begun_under, both_parts, both_true}
use Rattle.ptb_serve.proofs.Fronts.{no_front, no_share, share_true}
use Rattle.ptb_serve.proofs.ServedListings.{reply-listed, reply-refused}
use Rattle.ptb_serve.proofs.ShareReplies.{share_replies, splits_runs}

-- ---- a text that is refused

too_long_text : (memory : ℕ) (b : List ℕ) → program_limit < length b → program_of_text memory b ≡ Err (0, TooLong)
unfolding program_of_text
too_long_text memory b long =
    ap (λ (t : Bool). elim t [ true ↦ Err (0, TooLong) | false ↦ program memory b ])
    (lt-ltb program_limit (length b) long)

refused : (memory : ℕ) (b : List ℕ) (next : StoredProgram → Reply) (e : ℕ × LoadFault)
    → program_of_text memory b ≡ Err e
    → program_reply memory b next ≡ refusal (notes.Load e.0 e.1)
refused memory b next e h = ap (reply_or_refusal next memory) h

refused_in_mode : (m : Mode) (r : Request) (b c : List ℕ) (e : ℕ × LoadFault) → program_of_text r.memory b ≡ Err e
    → reply_in_mode m r b c ≡ refusal (notes.Load e.0 e.1)
refused_in_mode (modes.Plain a) r b c e h = refused r.memory b (plain_reply r.rules a c) e h
refused_in_mode (modes.Seeded seed) r b c e h = refused r.memory b (seeded_reply r.rules seed c) e h
refused_in_mode (modes.All under after first form) r b c e h =
    refused r.memory b (λ p. all_reply p (input_lines c) r.rules under after first form) e h
refused_in_mode (modes.Shares answers form) r b c e h =
    refused r.memory b (λ p. shares_reply p (input_lines c) r.rules answers form) e h
refused_in_mode (modes.Sample seed runs form) r b c e h =
    refused r.memory b (λ p. sample_reply p (input_lines c) r.rules seed runs form) e h
refused_in_mode modes.List r b c e h = refused r.memory b listing_reply e h
refused_in_mode modes.Check r b c e h = refused r.memory b check_reply e h
refused_in_mode modes.Chances r b c e h = refused r.memory b (λ p. chances_reply p (input_lines c) r.rules) e h

-- ---- a text that is accepted

accepted : (memory : ℕ) (b : List ℕ) (next : StoredProgram → Reply) (p : Statements) → program_of_text memory b ≡ Ok p
    → program_reply memory b next ≡ next (record { lines = p; memory = memory })
accepted memory b next p h = ap (reply_or_refusal next memory) h

module _ (p : StoredProgram) (c : List ℕ) (rules : Rules)
    (tree : TreeLaws (play p (input_lines c) rules) (most_answers p (input_lines c) rules.limit))
    (laws : ListingLaws (play p (input_lines c) rules) (most_answers p (input_lines c) rules.limit))
    (share : ShareLaws (play p (input_lines c) rules) (most_answers p (input_lines c) rules.limit))
    (reports : ReportLaws (play p (input_lines c) rules) (most_answers p (input_lines c) rules.limit))
    (reads : IsReader (play p (input_lines c) rules) (most_answers p (input_lines c) rules.limit)) (drawn : SeededLaws)
    (samples : SampleLaws (play p (input_lines c) rules) (most_answers p (input_lines c) rules.limit))
    (beginnings : (n : ℕ) → BeginningLaws (play p (input_lines c) rules) (most_answers p (input_lines c) rules.limit) n)
    (tables : TableLaws (play p (input_lines c) rules) (most_answers p (input_lines c) rules.limit)) where
  abbrev game : Answers → Outcome Finish (List ℕ)
  game = play p (input_lines c) rules

  -- a listing begins with the first run, or after one that is named; these are the runs that are to be listed
  lists_runs : (under after : Option (List Marked)) → front_note game under after ≡ None → (IsListed : Answers → Type 0)
      → ((a : Answers) → (IsRun game a × (is_left (share_prefix under) (first_front after) a ≡ true)) ↔ IsListed a)
      → (reply : Option ℕ → Form → Reply)
      → ((first : Option ℕ) (form : Form) → reply first form ≡ all_reply p (input_lines c) rules under after first form)
      → ListsRuns game IsListed reply
  lists_runs under after front IsListed same reply is = record {
    runs = runs_after game (most_answers p (input_lines c) rules.limit) (share_prefix under) (first_front after);
    rising = laws.order (share_prefix under) (first_front after);
    members = λ a.
        let left = laws.runs (share_prefix under) (first_front after) a in
        (λ h. (same a).0 (left.0 h), λ h. left.1 ((same a).1 h));
    all = λ form. is None form ∙ reply-listed p rules under after None form (input_lines c) front;
    first = λ n form. is (Some n) form ∙ reply-listed p rules under after (Some n) form (input_lines c) front;
  }

  -- the share of no answers is the whole
  whole_reply : (after : Option (List Marked)) (first : Option ℕ) (form : Form)
      → all_reply p (input_lines c) rules (Some []) after first form
      ≡ all_reply p (input_lines c) rules None after first form
  whole_reply after first form = by_note (front_note game None after) refl
    where
      same : front_note game (Some []) after ≡ front_note game None after
      same = ap (λ t. note_of t (is_front game [] after)) (share_true game [] (reads.begins, refl))

      by_note : (o : Option Note) → front_note game None after ≡ o
          → all_reply p (input_lines c) rules (Some []) after first form
          ≡ all_reply p (input_lines c) rules None after first form
      by_note None e =
          reply-listed p rules (Some []) after first form (input_lines c) (same ∙ e)
          ∙ sym (reply-listed p rules None after first form (input_lines c) e)
      by_note (Some note) e =
          reply-refused p rules (Some []) after first form (input_lines c) note (same ∙ e)
          ∙ sym (reply-refused p rules None after first form (input_lines c) note e)

  -- where the reply to a seed is that of the definition
  runs_by_seed : (reply : Mode → Reply) → ((a : Answers) → reply (modes.Plain a) ≡ plain_reply rules a c p)
      → (seed : ℕ) → reply (modes.Seeded seed) ≡ seeded_reply rules seed c p → RunsBySeed seed game reply
  runs_by_seed reply plain seed seeded = record {
    answers = seeded_answers seed p (input_lines c) rules;
    drawn = drawn.drawn seed p (input_lines c) rules;
    only = drawn.only seed p (input_lines c) rules;
    same = seeded ∙ sym (plain (seeded_answers seed p (input_lines c) rules));
  }

  -- where the reply to a sample is that of the definition
  samples_by_seed : (seed n : ℕ) (reply : Form → Reply)
      → ((form : Form) → reply form ≡ sample_reply p (input_lines c) rules seed n form)
      → SamplesBySeed seed game n reply
  samples_by_seed seed n reply sampled = record {
    runs = runs_drawn game (most_answers p (input_lines c) rules.limit) seed n;
    count = samples.count (generator_of seed) n;
    members = samples.runs (generator_of seed) n;
    drawn = samples.words (generator_of seed) n;
    first = λ a later e d. (
      sampled_runs (most_answers p (input_lines c) rules.limit) game
          (generator_after (generator_of seed) (length a)) later,
      ap (runs_drawn game (most_answers p (input_lines c) rules.limit) seed) e
          ∙ samples.first (generator_of seed) a later d,
    );
    reports = sampled;
  }

  run_replies : (reply : Mode → Reply) → ((a : Answers) → reply (modes.Plain a) ≡ plain_reply rules a c p)
      → ((seed : ℕ) → reply (modes.Seeded seed) ≡ seeded_reply rules seed c p)
      → ((under after : Option (List Marked)) (first : Option ℕ) (form : Form)
      → reply (modes.All under after first form) ≡ all_reply p (input_lines c) rules under after first form)
      → ((seed runs : ℕ) (form : Form)
      → reply (modes.Sample seed runs form) ≡ sample_reply p (input_lines c) rules seed runs form)
      → ((n : ℕ) (form : Form) → reply (modes.Shares n form) ≡ shares_reply p (input_lines c) rules n form)
      → reply modes.Chances ≡ chances_reply p (input_lines c) rules
      → RunReplies game (most_answers p (input_lines c) rules.limit) reply
  run_replies reply plain seeded all sample lists chances = record {
    tree = tree;
    all_runs =
        lists_runs None None refl (IsRun game) (λ a. (λ h. h.0, λ h. (h, refl)))
        (λ first form. reply (modes.All None None first form)) (all None None);
    runs_after = λ list run.
        lists_runs None (Some list) (begun_after game list run) (λ a. IsRun game a × Before (answers_of list) a)
        (λ a. (λ h. h, λ h. h))
        (λ first form. reply (modes.All None (Some list) first form)) (all None (Some list));
    no_run = λ list first form none.
        all None (Some list) first form ∙ reply-refused p rules None (Some list) first form (input_lines c) notes.NoRun
        (no_front game None list refl (λ run b. none run));
    share = λ under b.
        lists_runs (Some under) None (begun_under game under b)
        (λ a. IsRun game a × (begins_with a (answers_of under) ≡ true))
        (λ a. (λ h. (h.0, (both_parts _ _ h.1).0), λ h. (h.0, both_true _ _ h.1 refl)))
        (λ first form. reply (modes.All (Some under) None first form)) (all (Some under) None);
    share_after = λ under list b run begins.
        lists_runs (Some under) (Some list) (begun_both game under list b run begins)
        (λ a. IsRun game a × Before (answers_of list) a × (begins_with a (answers_of under) ≡ true))
        (λ a. (λ h. let q = both_parts _ _ h.1 in (h.0, q.1, q.0), λ h. (h.0, both_true _ _ h.2 h.1)))
        (λ first form. reply (modes.All (Some under) (Some list) first form)) (all (Some under) (Some list));
    no_beginning = λ under after first form none.
        all (Some under) after first form ∙ reply-refused p rules (Some under) after first form
        (input_lines c) notes.NoBeginning (no_share game under after none);
    not_in_share = λ under list first form b none.
        all (Some under) (Some list) first form
        ∙ reply-refused p rules (Some under) (Some list) first form (input_lines c) notes.NoRun
        (no_front game (Some under) list (share_true game under b) none);
    shares = share_replies p c rules reads laws share reply all (λ after first form. all (Some []) after first form
        ∙ whole_reply after first form ∙ sym (all None after first form));
    split = λ n. splits_runs p c rules reads laws share reply all n (beginnings n) (λ form. lists n form);
    reports = reports;
    run_report = λ form a f ends. ap (report_of (items_in form a (bounds game a))) ends;
    plain_run = plain;
    seeded_run = λ seed. runs_by_seed reply plain seed (seeded seed);
    sampled =
        λ seed runs. samples_by_seed seed runs (λ form. reply (modes.Sample seed runs form))
        (λ form. sample seed runs form);
    chances = record { rows = chances; laws = tables };
  }

-- ---- a check

-- the status by the mistakes
module _ (p : Statements) where
  status_none : (ms : List Mistake) → ms ≡ [] → check_status (has_any ms) ≡ 0
  status_none ms e = ap (λ xs. check_status (has_any xs)) e

  status_some : (ms : List Mistake) → (ms ≡ [] → ⊥) → check_status (has_any ms) ≡ 1
  status_some [] none = absurd (none refl)
  status_some (m ∷ ms) none = refl

  checks_text : (memory : ℕ) (reply : Reply) → reply ≡ check_reply (record { lines = p; memory = memory })
      → ChecksText p reply
  checks_text memory reply is = record {
    bytes = ap (λ (r : Reply). r.bytes) is;
    none = λ e. ap (λ (r : Reply). r.status) is ∙ status_none (mistakes p) e;
    some = λ e. ap (λ (r : Reply). r.status) is ∙ status_some (mistakes p) e;
    note = ap (λ (r : Reply). r.note) is;
  }

-- ---- all of them

pub reply_laws : RunLaws → SeededLaws
    → ((p : StoredProgram) (input : List (List ℕ)) (rules : Rules)
    → TreeLaws (play p input rules) (most_answers p input rules.limit))
    → ((p : StoredProgram) (input : List (List ℕ)) (rules : Rules)
    → ListingLaws (play p input rules) (most_answers p input rules.limit))
    → ((p : StoredProgram) (input : List (List ℕ)) (rules : Rules)
    → ShareLaws (play p input rules) (most_answers p input rules.limit))
    → ((p : StoredProgram) (input : List (List ℕ)) (rules : Rules)
    → ReportLaws (play p input rules) (most_answers p input rules.limit))
    → ((p : StoredProgram) (input : List (List ℕ)) (rules : Rules)
    → SampleLaws (play p input rules) (most_answers p input rules.limit))
    → ((p : StoredProgram) (input : List (List ℕ)) (rules : Rules) (n : ℕ)
    → BeginningLaws (play p input rules) (most_answers p input rules.limit) n)
    → ((play : Answers → Outcome Finish (List ℕ)) (most : ℕ) → IsReader play most → TableLaws play most) → CheckLaws
    → ReplyLaws
reply_laws runs drawn tree laws share reports samples beginnings tables checks = record {
  too_long = λ r b c long. refused_in_mode r.mode r b c (0, TooLong) (too_long_text r.memory b long);
  refused = λ r b c e h. refused_in_mode r.mode r b c e h;
  accepted = λ memory size rules b c p h.
      run_replies (record { lines = p; memory = memory }) c rules
      (tree (record { lines = p; memory = memory }) (input_lines c) rules)
      (laws (record { lines = p; memory = memory }) (input_lines c) rules)
      (share (record { lines = p; memory = memory }) (input_lines c) rules)
      (reports (record { lines = p; memory = memory }) (input_lines c) rules)
      (runs.reads (record { lines = p; memory = memory }) (input_lines c) rules) drawn
      (samples (record { lines = p; memory = memory }) (input_lines c) rules)
      (beginnings (record { lines = p; memory = memory }) (input_lines c) rules)
      (tables (play (record { lines = p; memory = memory }) (input_lines c) rules)
      (most_answers (record { lines = p; memory = memory }) (input_lines c) rules.limit)
      (runs.reads (record { lines = p; memory = memory }) (input_lines c) rules)) _
      (λ a. accepted memory b (plain_reply rules a c) p h)
      (λ seed. accepted memory b (seeded_reply rules seed c) p h)
      (λ under after first form. accepted memory b (λ p. all_reply p (input_lines c) rules under after first form) p h)
      (λ seed runs form. accepted memory b (λ p. sample_reply p (input_lines c) rules seed runs form) p h)
      (λ n form. accepted memory b (λ p. shares_reply p (input_lines c) rules n form) p h)
      (accepted memory b (λ p. chances_reply p (input_lines c) rules) p h);
  listed = λ r b c p h mode. ap (λ m. reply_in_mode m r b c) mode ∙ accepted r.memory b listing_reply p h;
  checked =
      λ r b c p h mode. checks_text p r.memory _
      (ap (λ m. reply_in_mode m r b c) mode ∙ accepted r.memory b check_reply p h);
  mistakes = checks;
}
