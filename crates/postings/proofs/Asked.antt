-- A question for the latest posting, where the nest's system stands.
use Rattle.std.proofs.Common.{◌≡◌, ℕ, zero, suc, ◌≤◌, ◌<◌, Bool, true, false, eqb, leb, List, [], ◌∷◌, map, length, ℤ, pos, Some, None, Ok, Err, Option, Result, IsOk, sym, refl, ap, ap₂, ◌∙◌, subst, inl, inr, arith}
use borrow.Author.Differences.{ints}
use Rattle.std.specs.Prelude.{slice_index}
use Rattle.std.proofs.lemmas.Bool.{eqb-false, eqb-true, leb-false, leb-true}
use Rattle.std.proofs.lemmas.List.{length-map}
use Rattle.base.specs.Numbers.{zeros}
use Rattle.base.specs.declared.refusal.Refusal.{Refusal}
use Rattle.base.specs.declared.refusal.Values.TheVariants.{None as NoValues}
use Rattle.base.specs.Refusals.{refused, reported}
use Rattle.source.specs.Systems.{System}
use Rattle.store.specs.Stores.{Meaning}
use Rattle.tree.specs.declared.walk.Found.{Found}
use Rattle.tree.specs.declared.walk.Found.TheVariants.{Point as APosting, None as NoPosting}
use Rattle.tree.specs.Finds.{found_in, left_of as place_of, said_of, six_numbers}
use Rattle.nest.specs.Backs.{turned_back}
use Rattle.nest.specs.Loops.{Loops, Shaped}
use Rattle.nest.specs.Tables.{system_of}
use Rattle.nest_laws.specs.Laws.{Askable}
use Rattle.nest_laws.proofs.Backs.{back-posts}
use Rattle.nest_laws.proofs.Latest.{postings-correspond}
use Rattle.sheet.specs.Events.{Find}
use Rattle.sheet.specs.Laws.{FindRight, InRange, RefusedRight}
use Rattle.sheet.proofs.Arranged.{next-find}
use Rattle.postings.specs.Latest.{found_turned, latest_in, left_of, turned}
use Rattle.postings.specs.Laws.{LatestRight, NextLatest}

-- ---- a find that is not refused
in-range-askable : (z : List ℕ) → InRange (map pos z) → Askable z
in-range-askable [] h k = omega arith
in-range-askable (x ∷ z) h zero = let u = h.0.1 in omega (arith, ints, u)
in-range-askable (x ∷ z) h (suc k) = in-range-askable z h.1 k

module _ (S : System) (f : Find) (r : RefusedRight (Some S) f) (ok : IsOk f.answer) where
  not-refused : (number : ℕ) → ¬ (reported f.answer ≡ refused {A = Found} number NoValues)
  not-refused number h = go f.answer h ok
    where
      go : (a : Result Found Refusal) → reported a ≡ refused {A = Found} number NoValues → ¬ IsOk a
      go (Ok x) q i = cc
      go (Err x) q i = cc

  counted : length f.point ≡ S.p
  counted = go (eqb (length f.point) S.p) refl
    where
      go : (b : Bool) → eqb (length f.point) S.p ≡ b → length f.point ≡ S.p
      go true e = eqb-true (length f.point) S.p e
      go false e = absurd (not-refused 42 (r.whenever 42 (inl (eqb-false (length f.point) S.p e, refl))))

  askable : (z : List ℕ) → f.point ≡ map pos z → Askable z
  askable z is k = go (leb (slice_index z k) 1000000) refl
    where
      far : 1000000 < slice_index z k → ¬ InRange f.point
      far l h = let a = in-range-askable z (subst InRange is h) k in let no : ⊥ = omega (arith, a, l) in no

      go : (b : Bool) → leb (slice_index z k) 1000000 ≡ b → slice_index z k ≤ 1000000
      go true e = leb-true (slice_index z k) 1000000 e
      go false e = absurd (not-refused 43 (r.whenever 43 (inr (inl (counted, (far (leb-false (slice_index z k) 1000000 e), refl))))))

-- ---- what find came to, turned back
-- a point that is found
pub point-turned : (L : Loops) (point least : List ℤ) (o : Result (Option (List ℤ)) Refusal) → Ok APosting ≡ said_of o → least ≡ place_of o → turned (turned_back L point least) ≡ found_turned L point o
point-turned L point least (Ok (Some values)) p q = ap (λ xs. turned (turned_back L point xs)) q
point-turned L point least (Ok None) p q = cc
point-turned L point least (Err e) p q = cc

module _ (L : Loops) (s : Shaped L) (point : List ℤ) where
  abbrev pub found : Result (Option (List ℤ)) Refusal → Find
  found o = record { point = point; answer = said_of o; place = place_of o }

  abbrev pub asked : Result (Option (List ℤ)) Refusal → Find
  asked o = record { point = point; answer = said_of o; place = left_of o }

  -- the place does not count
  same-refusals : (a : Result Found Refusal) (xs ys : List ℤ) → RefusedRight (Some (system_of L)) (record { point = point; answer = a; place = xs }) → RefusedRight (Some (system_of L)) (record { point = point; answer = a; place = ys })
  same-refusals a xs ys r = record { only = r.only; whenever = r.whenever }

  many : (z : List ℕ) → point ≡ map pos z → length point ≡ L.p → length z ≡ L.p
  many z is l = sym (length-map z pos) ∙ ap length (sym is) ∙ l

  right : (o : Result (Option (List ℤ)) Refusal) → FindRight (Some (system_of L)) (found o) → LatestRight L (asked (found_turned L point o))
  right (Err e) r = record {
    named = λ h. cc;
    none = λ ok. cc;
    refused = same-refusals (Err e) (place_of (Err e)) (zeros 6) r.refused;
    otherwise = λ h. refl;
  }
  right (Ok None) r = record {
    named = λ h. cc;
    none = λ ok.
        let k = r.none ok in
        let l = (postings-correspond L s k.0 (many k.0 k.1.0 (counted (system_of L) (found (Ok None)) r.refused ok))).1 in
        (k.0, (k.1.0, (λ h. l.no_posting (k.1.1.0 h), λ never. k.1.1.1 (l.no_point never))));
    refused = same-refusals (Ok NoPosting) (place_of (Ok None)) (zeros 6) r.refused;
    otherwise = λ h. refl;
  }
  right (Ok (Some values)) r =
      let f = found (Ok (Some values)) in
      let n = r.named refl in
      let z = n.parameters in
      let l = many z n.asked (counted (system_of L) f r.refused refl) in
      let b = back-posts L s z n.unknowns l (askable (system_of L) f r.refused refl z n.asked) n.is_point in
      let e : turned_back L point (six_numbers values) ≡ Ok (six_numbers (map pos b.0)) = ap₂ (turned_back L) n.asked n.named ∙ b.1.1.1 in
      subst (λ t. LatestRight L (asked (turned t))) (sym e) (record {
        named = λ h. record { parameters = z; counters = b.0; asked = n.asked; named = refl; latest = (postings-correspond L s z l).1.latest n.unknowns b.0 b.1.0 (n.is_point, n.precedes) };
        none = λ ok. (z, (n.asked, (λ h. cc, λ never. absurd (never b.0 b.1.1.0))));
        refused = same-refusals (Ok APosting) (six_numbers values) (six_numbers (map pos b.0)) r.refused;
        otherwise = λ h. absurd (h refl);
      })

pub latest-right : (m : Meaning) (L : Loops) → Shaped L → (point : List ℤ) (a : Result Found Refusal) (place : List ℤ) →
    a ≡ said_of (latest_in m.nodes L point) → place ≡ left_of (latest_in m.nodes L point) → NextLatest m L (record { point = point; answer = a; place = place })
latest-right m L s point a place p q k =
    let o = found_in m.nodes point in
    let f = found L s point o in
    let r = subst (λ now. FindRight now f) k.stands (next-find m f (refl, refl) k.events k.leads) in
    subst (λ y. LatestRight L (record { point = point; answer = a; place = y })) (sym q)
    (subst (λ x. LatestRight L (record { point = point; answer = x; place = left_of (latest_in m.nodes L point) })) (sym p) (right L s point o r))
