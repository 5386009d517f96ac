-- This file proves how lists of what waits change where one is pushed, popped, inserted or removed.
-- Main lemmas: `put_alone`, `put_with` and `put_aside`.
use Rattle.std.proofs.Common.{◌≡◌, ℕ, ◌+◌, ◌<◌, inl, inr, Bool, true, false, cond, List, [], ◌∷◌}
use Rattle.std.proofs.Common.{◌++◌, map, Some, None, refl, ap, sym, subst, ◌∙◌, append_assoc}
use Rattle.std.specs.BTreeMap.{insert_entry, is_at}
use Rattle.std.specs.Map.{lookup, remove_entry, set_value}
use Rattle.std.specs.Ordering.{is_eq, match_ordering, nat_cmp}
use Rattle.std.specs.declared.cmp.Ordering.{Ordering}
use Rattle.std.specs.declared.cmp.Ordering.TheVariants.{Less, Equal, Greater}
use Rattle.ptb_numbers.specs.Fractions.{Equals, plus}
use Rattle.ptb_chances.specs.declared.worklist.SavedState.{SavedState}
use Rattle.ptb_chances.specs.declared.worklist.Waiting.{Waiting}
use Rattle.ptb_chances.specs.WaitingPlays.{IsJoined, Puts, WaitingPlay, Takes, unplanned, in_map}

pub map_last : {A : Type 0} (f : A → WaitingPlay) (xs : List A) (x : A) (rest : List WaitingPlay)
    → map f (xs ++ x ∷ []) ++ rest ≡ map f xs ++ f x ∷ rest
map_last f [] x rest = refl
map_last f (y ∷ xs) x rest = ap (λ ws. f y ∷ ws) (map_last f xs x rest)

-- one more at the end of a list
pub takes_last : {A : Type 0} (f : A → WaitingPlay) (xs ys : List A) (x : A) (rest : List WaitingPlay)
    → ys ≡ xs ++ x ∷ []
    → Takes (map f ys ++ rest) (f x) (map f xs ++ rest)
takes_last f xs ys x rest is = record {
  prefix = map f xs;
  suffix = rest;
  old_is = ap (λ zs. map f zs ++ rest) is ∙ map_last f xs x rest;
  new_is = refl;
}

-- after others
pub takes_after : (us old new : List WaitingPlay) (w : WaitingPlay) → Takes old w new → Takes (us ++ old) w (us ++ new)
takes_after us old new w t = record {
  prefix = us ++ t.prefix;
  suffix = t.suffix;
  old_is = ap (λ ws. us ++ ws) t.old_is ∙ sym (append_assoc us t.prefix (w ∷ t.suffix));
  new_is = ap (λ ws. us ++ ws) t.new_is ∙ sym (append_assoc us t.prefix t.suffix);
}

takes_under : (f : WaitingPlay) (old new : List WaitingPlay) (w : WaitingPlay) → Takes old w new
    → Takes (f ∷ old) w (f ∷ new)
takes_under f old new w t = record {
  prefix = f ∷ t.prefix;
  suffix = t.suffix;
  old_is = ap (λ ws. f ∷ ws) t.old_is;
  new_is = ap (λ ws. f ∷ ws) t.new_is;
}

module _ (order : ℕ → ℕ → Ordering) (key : ℕ) where
  pub inserted : (v : Waiting) (es : List (ℕ × Waiting)) → lookup (is_at (order key)) es ≡ None
      → Takes (map in_map (insert_entry order es key v)) (unplanned v) (map in_map es)
  inserted v [] none = record { prefix = []; suffix = []; old_is = refl; new_is = refl }
  inserted v (e ∷ es) none = by_order (inserted v es) (order key e.0) none
    where
      by_order : (lookup (is_at (order key)) es ≡ None
          → Takes (map in_map (insert_entry order es key v)) (unplanned v) (map in_map es))
          → (o : Ordering) → cond (is_eq o) (Some e.1) (lookup (is_at (order key)) es) ≡ None
          → Takes (map in_map (match_ordering o ((key, v) ∷ e ∷ es) ((e.0, v) ∷ es) (e ∷ insert_entry order es key v)))
          (unplanned v) (in_map e ∷ map in_map es)
      by_order later Less h = record { prefix = []; suffix = in_map e ∷ map in_map es; old_is = refl; new_is = refl }
      by_order later Equal h = absurd cc
      by_order later Greater h = takes_under (in_map e) (map in_map (insert_entry order es key v)) (map in_map es)
          (unplanned v) (later h)

  -- the value there may become another
  pub replaced : (v w : Waiting) (es : List (ℕ × Waiting)) → lookup (is_at (order key)) es ≡ Some v
      → Takes (map in_map (set_value (is_at (order key)) es w)) (unplanned w)
      (map in_map (remove_entry (is_at (order key)) es))
  replaced v w [] is = absurd cc
  replaced v w (e ∷ es) is = by_test (replaced v w es) (is_at (order key) e.0) is
    where
      by_test : (lookup (is_at (order key)) es ≡ Some v → Takes (map in_map (set_value (is_at (order key)) es w))
          (unplanned w) (map in_map (remove_entry (is_at (order key)) es)))
          → (b : Bool) → cond b (Some e.1) (lookup (is_at (order key)) es) ≡ Some v
          → Takes (map in_map (cond b ((e.0, w) ∷ es) (e ∷ set_value (is_at (order key)) es w))) (unplanned w)
          (map in_map (cond b es (e ∷ remove_entry (is_at (order key)) es)))
      by_test later true h = record { prefix = []; suffix = map in_map es; old_is = refl; new_is = refl }
      by_test later false h = takes_under (in_map e) (map in_map (set_value (is_at (order key)) es w))
          (map in_map (remove_entry (is_at (order key)) es)) (unplanned w) (later h)

  pub replaced_by_itself : (v : Waiting) (es : List (ℕ × Waiting)) → lookup (is_at (order key)) es ≡ Some v
      → set_value (is_at (order key)) es v ≡ es
  replaced_by_itself v [] is = refl
  replaced_by_itself v (e ∷ es) is = by_test (replaced_by_itself v es) (is_at (order key) e.0) is
    where
      by_test : (lookup (is_at (order key)) es ≡ Some v → set_value (is_at (order key)) es v ≡ es) → (b : Bool)
          → cond b (Some e.1) (lookup (is_at (order key)) es) ≡ Some v
          → cond b ((e.0, v) ∷ es) (e ∷ set_value (is_at (order key)) es v) ≡ e ∷ es
      by_test later true h = let same : e.1 ≡ v = cc in ap (λ (x : Waiting). (e.0, x) ∷ es) (sym same)
      by_test later false h = ap (λ fs. e ∷ fs) (later h)

-- ---- plays that are put in

module _ (plans : List WaitingPlay) (others : List Waiting) (es : List (ℕ × Waiting)) (key : ℕ) (w : Waiting) where
  abbrev pub old_work : List WaitingPlay
  old_work = plans ++ (map unplanned others ++ map in_map es)

  abbrev pub new_work : List Waiting → List (ℕ × Waiting) → List WaitingPlay
  new_work others' es' = plans ++ (map unplanned others' ++ map in_map es')

  -- none wait at the key
  pub put_alone : (es' : List (ℕ × Waiting)) → lookup (is_at (nat_cmp key)) es ≡ None
      → es' ≡ insert_entry nat_cmp es key w → Puts old_work (unplanned w) (new_work others es')
  put_alone es' none is =
      inl (takes_after plans (map unplanned others ++ map in_map es') (map unplanned others ++ map in_map es)
      (unplanned w)
      (takes_after (map unplanned others) (map in_map es') (map in_map es) (unplanned w)
      (subst (λ (fs : List (ℕ × Waiting)). Takes (map in_map fs) (unplanned w) (map in_map es)) (sym is)
      (inserted nat_cmp key w es none))))

  -- others wait there, in another state
  pub put_aside : (v : Waiting) (others' : List Waiting) (es' : List (ℕ × Waiting))
      → lookup (is_at (nat_cmp key)) es ≡ Some v → es' ≡ set_value (is_at (nat_cmp key)) es v
      → others' ≡ others ++ w ∷ []
      → Puts old_work (unplanned w) (new_work others' es')
  put_aside v others' es' there is more =
      let same : es' ≡ es = is ∙ replaced_by_itself nat_cmp key v es there in
      let one : Takes (map unplanned others' ++ map in_map es) (unplanned w) (map unplanned others ++ map in_map es) =
      takes_last unplanned others others' w (map in_map es) more in
      inl (takes_after plans (map unplanned others' ++ map in_map es') (map unplanned others ++ map in_map es)
      (unplanned w)
      (subst (λ (fs : List (ℕ × Waiting)). Takes (map unplanned others' ++ map in_map fs) (unplanned w)
      (map unplanned others ++ map in_map es)) (sym same) one))

  -- others wait there, in the same state
  pub put_with : (v u : Waiting) (es' : List (ℕ × Waiting)) → lookup (is_at (nat_cmp key)) es ≡ Some v
      → es' ≡ set_value (is_at (nat_cmp key)) es u → IsJoined (unplanned v) (unplanned w) (unplanned u)
      → Puts old_work (unplanned w) (new_work others es')
  put_with v u es' there is joined =
      let rest : List (ℕ × Waiting) = remove_entry (is_at (nat_cmp key)) es in
      let out : Takes (map in_map es) (unplanned v) (map in_map rest) =
      subst (λ (fs : List (ℕ × Waiting)). Takes (map in_map fs) (unplanned v) (map in_map rest))
      (replaced_by_itself nat_cmp key v es there) (replaced nat_cmp key v v es there) in
      let back : Takes (map in_map es') (unplanned u) (map in_map rest) = subst (λ (fs : List (ℕ × Waiting)). Takes
      (map in_map fs) (unplanned u) (map in_map rest)) (sym is) (replaced nat_cmp key v u es there) in
      inr (record {
        other = unplanned v;
        both = unplanned u;
        rest = plans ++ (map unplanned others ++ map in_map rest);
        before = takes_after plans (map unplanned others ++ map in_map es) (map unplanned others ++ map in_map rest)
            (unplanned v) (takes_after (map unplanned others) (map in_map es) (map in_map rest) (unplanned v) out);
        after = takes_after plans (map unplanned others ++ map in_map es') (map unplanned others ++ map in_map rest)
            (unplanned u) (takes_after (map unplanned others) (map in_map es') (map in_map rest) (unplanned u) back);
        joined = joined;
      })

-- plays in the same state are joined
pub joined_there : (v w u : Waiting) → v.state.machine ≡ w.state.machine → v.state.taken ≡ w.state.taken
    → v.state.shown.items ≡ w.state.shown.items
    → u.state ≡ v.state → Equals u.chance (plus v.chance w.chance) → 0 < u.chance.denominator → u.runs ≡ v.runs + w.runs
    → IsJoined (unplanned v) (unplanned w) (unplanned u)
joined_there v w u machine taken shown state chance positive runs =
    let there : v.state ≡ u.state = sym state in
    record {
      first = record {
        machine = ap (λ (x : SavedState). x.machine) there;
        taken = ap (λ (x : SavedState). x.taken) there;
        shown = ap (λ (x : SavedState). x.shown.items) there;
        plan = refl;
      };
      second = record {
        machine = sym machine ∙ ap (λ (x : SavedState). x.machine) there;
        taken = sym taken ∙ ap (λ (x : SavedState). x.taken) there;
        shown = sym shown ∙ ap (λ (x : SavedState). x.shown.items) there;
        plan = refl;
      };
      chance = chance;
      positive = positive;
      runs = runs;
    }
