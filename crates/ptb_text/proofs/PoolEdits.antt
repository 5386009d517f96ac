-- This file proves what a pool holds once a text has replaced a part of it: the part is cut out, the text is appended,
-- and what is there from that place on is rotated.
-- Main lemma: `put_items`.
use Rattle.std.proofs.Common.{◌≡◌, ◌∙◌, ℕ, ◌-◌, ◌≤◌, List, [], ◌++◌, length, take, drop, Result, Ok}
use Rattle.std.proofs.Common.{refl, ap, arith, append_assoc, append-nil, length-append, length-drop}
use Rattle.std.proofs.Common.{length-take}
use Rattle.std.specs.Prelude.{if◌then◌else◌}
use Rattle.std.specs.List.{remove_range, splice}
use Rattle.std.specs.Result.{is_ok}
use Rattle.std.specs.Global.{Vec}
use Rattle.std.specs.Vec.{with_items}
use Rattle.std.proofs.lemmas.List.{drop_all, drop_at, take_all, take_at, with_items_is}

extended : {T E : Type 0} (r : Result T E) (x : T) (new a b : List ℕ) → new ≡ (if is_ok r then a else b) → r ≡ Ok x
    → new ≡ a
extended r x new a b is ok = is ∙ ap (λ q. if is_ok q then a else b) ok

turned : (q t part new : List ℕ) → part ≡ q ++ t
    → new ≡ drop (length part - length t) part ++ take (length part - length t) part → new ≡ t ++ q
turned q t part new is after =
    let k : length part - length t ≡ length q = omega (arith, ap length is, length-append q t) in
    after ∙ ap (λ n. drop n part ++ take n part) k ∙ ap (λ l. drop (length q) l ++ take (length q) l) is
    ∙ ap (λ l. l ++ take (length q) (q ++ t)) (drop_at q t (length q) refl)
    ∙ ap (λ l. t ++ l) (take_at q t (length q) refl)

pub put_items : {T E : Type 0} (bytes t : List ℕ) (start end : ℕ) → start ≤ end → end ≤ length bytes
    → (cut : List ℕ) (v : Vec ℕ) (r : Result T E) (x : T) → v.items ≡ (if is_ok r then cut ++ t else cut)
    → cut ≡ remove_range bytes start end → r ≡ Ok x
    → (all new : List ℕ) → all ≡ v.items → length all ≡ v.len
    → (let part = take (length all - start) (drop start all) in
    new ≡ drop (length part - length t) part ++ take (length part - length t) part)
    → (with_items v (take start all ++ (new ++ drop (length all - start) (drop start all)))).items
    ≡ splice bytes start end t
put_items bytes t start end order within cut v r x more cut_is ok all new same count after =
    let f = take start bytes in
    let q = drop end bytes in
    let whole : all ≡ f ++ (q ++ t) = same ∙ extended r x v.items (cut ++ t) cut more ok ∙ ap (λ l. l ++ t) cut_is
    ∙ append_assoc f q t in
    let size : length f ≡ start = length-take start bytes ∙ omega (arith, order, within) in
    let front : take start all ≡ f = ap (take start) whole ∙ take_at f (q ++ t) start size in
    let back : drop start all ≡ q ++ t = ap (drop start) whole ∙ drop_at f (q ++ t) start size in
    let part : take (length all - start) (drop start all) ≡ q ++ t =
    take_all (length all - start) (drop start all) (omega (arith, length-drop start all)) ∙ back in
    let none : drop (length all - start) (drop start all) ≡ [] =
    drop_all (length all - start) (drop start all) (omega (arith, length-drop start all)) in
    let there : new ≡ t ++ q = turned q t (take (length all - start) (drop start all)) new part after in
    let put : take start all ++ (new ++ drop (length all - start) (drop start all)) ≡ f ++ (t ++ q) =
    ap (λ l. take start all ++ (new ++ l)) none ∙ ap (λ l. take start all ++ l) (append-nil new ∙ there)
    ∙ ap (λ l. l ++ (t ++ q)) front in
    let long : length (f ++ (t ++ q)) ≡ length all = omega (
      arith,
      length-append f (t ++ q),
      length-append t q,
      ap length whole,
      length-append f (q ++ t),
      length-append q t,
    ) in
    with_items_is v _ (ap length put ∙ long ∙ count) ∙ put
