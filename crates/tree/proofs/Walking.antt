-- A walk over a tree's nodes answers as the tree does.
use Rattle.std.proofs.Common.{◌≡◌, ℕ, suc, ◌-◌, ◌<◌, ◌≤◌, Bool, true, false, cond, ◌&&◌, T, eqb, ltb, leb, List, [], ◌∷◌, ◌++◌, map, length, replicate, ℤ, pos, negsuc, nat_abs, ◌≤ℤ◌, ◌<ℤ◌, Some, None, Ok, Err, Result, sym, refl, ap, ◌∙◌, ap₂, append_assoc, append-nil}
use lib.Signed.{le_z, lt_z}
use Rattle.std.proofs.lemmas.List.{take_at, length-map}
use Rattle.std.proofs.lemmas.Bool.{and_from, and_parts, cond-true, false≢true, le-leb, lt-ltb}
use Rattle.base.specs.declared.refusal.Refusal.{Refusal}
use Rattle.base.specs.declared.refusal.Refusal.TheVariants.{OutsideKeep, PointLength, PointNumber}
use Rattle.base.specs.Forms.{value_at}
use Rattle.base.specs.Refusals.{and_then}
use Rattle.base.specs.Numbers.{at}
use Rattle.tree.specs.declared.node.Node.{Node}
use Rattle.tree.specs.declared.node.Node.TheVariants.{Keep}
use Rattle.tree.specs.Trees.{Tree, split, new, leaf, none, nodes}
use Rattle.tree.specs.Answers.{answer_at, answer_from, gaining, setting, values_at}
use Rattle.tree.specs.Limits.{NewFits, TreeFits}
use Rattle.tree.specs.Finds.{all_below, found_in, head_fits, is_point, kept_answer, point_answer, proper, spread, walk}
use Rattle.tree.specs.Questions.{AnswersAsTree, AnswersWithinLimits, WellMade, all_nodes, asked, keeps_hold}

-- a tree is passed over
passed : (n : ℕ) (t : Tree) (past made : ℕ) (ρ : List ℤ) (rest : List Node) → walk n (suc past) made ρ (nodes t ++ rest) ≡ walk n past made ρ rest
passed n (split C t u) past made ρ rest = ap (walk n (suc (suc past)) made ρ) (append_assoc (nodes t) (nodes u) rest) ∙ passed n t (suc past) made ρ (nodes u ++ rest) ∙ passed n u past made ρ rest
passed n (new d T t) past made ρ rest = passed n t past made ρ rest
passed n (leaf forms) past made ρ rest = refl
passed n none past made ρ rest = refl

pub is_true : (b : Bool) → T b → b ≡ true
is_true true t = refl
is_true false t = absurd t

pub below_all : (d : ℤ) (T : List ℤ) → ((l : ℕ) → pos 0 ≤ℤ at T l) → ((l : ℕ) → at T l <ℤ d) → all_below d T ≡ true
below_all d [] low high = refl
below_all d (x ∷ xs) low high =
    and_from (le_z (pos 0) x && lt_z x d) (all_below d xs) (and_from (le_z (pos 0) x) (lt_z x d) (is_true (le_z (pos 0) x) (low 0).le) (is_true (lt_z x d) (high 0).lt)) (below_all d xs (λ l. low (suc l)) (λ l. high (suc l)))

-- a new parameter of a tree within the limits is proper
fits-proper : (p made : ℕ) (d : ℤ) (T : List ℤ) → made < 5 → NewFits p made d T → proper made d T ≡ true
fits-proper p made d T h f = and_from (ltb made 5) (le_z (pos 2) d && all_below d T) (lt-ltb made 5 h) (and_from (le_z (pos 2) d) (all_below d T) (is_true (le_z (pos 2) d) f.least.le) (below_all d T f.low f.high))

pub fits-made : (n p : ℕ) (t : Tree) (made left : ℕ) → TreeFits n p made left t → WellMade n made t
fits-made n p (split C t u) made left f = (fits-made n p t made (left - 1) f.1.1.0, fits-made n p u made (left - 1) f.1.1.1)
fits-made n p (new d T t) made left f = (fits-proper p made d T f.0 f.1.0, fits-made n p t (suc made) left f.1.1)
fits-made n p (leaf forms) made left f = f.0
fits-made n p none made left f = tt

walked : (n : ℕ) (t : Tree) (made : ℕ) (ρ : List ℤ) (rest : List Node) → WellMade n made t → walk n 0 made ρ (nodes t ++ rest) ≡ answer_from made ρ t
walked n (split C t u) made ρ rest w =
    ap (λ l. cond (le_z (pos 0) (value_at C ρ)) (walk n 0 made ρ l) (walk n 1 made ρ l)) (append_assoc (nodes t) (nodes u) rest)
    ∙ ap₂ (cond (le_z (pos 0) (value_at C ρ))) (walked n t made ρ (nodes u ++ rest) w.0) (passed n t 0 made ρ (nodes u ++ rest) ∙ walked n u made ρ rest w.1)
walked n (new d T t) made ρ rest w = cond-true (proper made d T) _ None w.0 ∙ walked n t (suc made) (gaining made d T ρ) rest w.1
walked n (leaf forms) made ρ rest w = ap (λ fs. Some (values_at ρ fs)) (take_at forms (replicate (6 - length forms) (replicate 10 (pos 0))) n w)
walked n none made ρ rest w = refl

-- ---- the keeps

cond-and : {X : Type 0} (a b : Bool) (x y : X) → cond a (cond b x y) y ≡ cond (a && b) x y
cond-and true b x y = refl
cond-and false b x y = refl

first-node : (n : ℕ) (ρ : List ℤ) (t : Tree) → kept_answer n ρ (nodes t) ≡ Ok (walk n 0 0 ρ (nodes t))
first-node n ρ (split C t u) = refl
first-node n ρ (new d T t) = refl
first-node n ρ (leaf forms) = refl
first-node n ρ none = refl

kept : (n : ℕ) (ρ : List ℤ) (keeps : List (List ℤ)) (t : Tree) → kept_answer n ρ (map Keep keeps ++ nodes t) ≡ cond (keeps_hold keeps ρ) (Ok (walk n 0 0 ρ (nodes t))) (Err OutsideKeep)
kept n ρ [] t = first-node n ρ t
kept n ρ (C ∷ Cs) t =
    ap (λ r. cond (le_z (pos 0) (value_at C ρ)) r (Err OutsideKeep)) (kept n ρ Cs t) ∙ cond-and (le_z (pos 0) (value_at C ρ)) (keeps_hold Cs ρ) (Ok (walk n 0 0 ρ (nodes t))) (Err OutsideKeep)

-- ---- the point

natural : (x : ℤ) → (le_z (pos 0) x && le_z x (pos 1000000)) ≡ true → pos (nat_abs x) ≡ x
natural (pos n) e = refl
natural (negsuc n) e = absurd (false≢true e)

naturals : (point : List ℤ) → is_point point ≡ true → map pos (map nat_abs point) ≡ point
naturals [] e = refl
naturals (x ∷ xs) e =
    let t = and_parts (le_z (pos 0) x && le_z x (pos 1000000)) (is_point xs) e in
    ap₂ ◌∷◌ (natural x t.0) (naturals xs t.1)

pub spread-setting : (point : List ℤ) → is_point point ≡ true → spread point ≡ setting (map nat_abs point)
spread-setting point e = ap₂ (λ xs m. xs ++ replicate (9 - m) (pos 0)) (sym (naturals point e)) (sym (length-map point nat_abs))

-- ---- the law

pub fits_head : (n p : ℕ) → 1 ≤ n → n ≤ 6 → p ≤ 4 → head_fits n p ≡ true
fits_head n p a b c = and_from (leb 1 n && leb n 6) (leb p 4) (and_from (leb 1 n) (leb n 6) (le-leb 1 n a) (le-leb n 6 b)) (le-leb p 4 c)

-- what follows the look at the point is the same for points
after-point : {A : Type 0} (p : ℕ) (point : List ℤ) (a b : Result A Refusal) → (is_point point ≡ true → a ≡ b) → and_then (point_answer p point) a ≡ and_then (point_answer p point) b
after-point p point a b h = go (eqb (length point) p) (is_point point) h where
  go : (l e : Bool) → (e ≡ true → a ≡ b) → and_then (cond l (cond e (Ok tt) (Err PointNumber)) (Err PointLength)) a ≡ and_then (cond l (cond e (Ok tt) (Err PointNumber)) (Err PointLength)) b
  go true true h = h refl
  go true false h = refl
  go false e h = refl

of_tree : (n p : ℕ) (keeps : List (List ℤ)) (t : Tree) (point : List ℤ) → head_fits n p ≡ true → WellMade n 0 t → found_in (all_nodes n p keeps t) point ≡ asked p keeps t point
of_tree n p keeps t point h made =
    let z = map nat_abs point in
    let w : walk n 0 0 (setting z) (nodes t) ≡ answer_at t z = ap (walk n 0 0 (setting z)) (sym (append-nil (nodes t))) ∙ walked n t 0 (setting z) [] made in
    cond-true (head_fits n p) _ _ h
    ∙ after-point p point (kept_answer n (spread point) (map Keep keeps ++ nodes t)) (cond (keeps_hold keeps (setting z)) (Ok (answer_at t z)) (Err OutsideKeep))
    (λ e. ap (λ ρ. kept_answer n ρ (map Keep keeps ++ nodes t)) (spread-setting point e) ∙ kept n (setting z) keeps t ∙ ap (λ a. cond (keeps_hold keeps (setting z)) (Ok a) (Err OutsideKeep)) w)

pub as_tree : (list : List Node) (point : List ℤ) → AnswersAsTree list point
as_tree list point n p keeps t h w e = ap (λ l. found_in l point) e ∙ of_tree n p keeps t point h w

pub as_within : (list : List Node) (point : List ℤ) → AnswersWithinLimits list point
as_within list point n p keeps t f = as_tree list point n p keeps t (fits_head n p f.unknowns_least f.unknowns_most f.parameters_most) (fits-made n p t 0 12 f.tree_fits)
