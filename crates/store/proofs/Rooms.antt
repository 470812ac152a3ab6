-- What code over any store needs of its meaning: sums of costs, and what a put and an install answer and leave in each case.
use Rattle.std.proofs.Common.{◌≡◌, ℕ, ◌+◌, ◌<◌, ◌≤◌, Bool, true, false, List, [], ◌∷◌, ◌++◌, length, get_or, take, Ok, Err, sym, refl, ap, ◌∙◌, ap₂, ⊎_elim, arith}
use Rattle.std.specs.List.{sum_by}
use Rattle.std.proofs.lemmas.List.{take_more}
use Rattle.std.proofs.lemmas.List.Sums.{sum_by-append, sum_by-cons, sum_by-take-le, sum_by_push}
use Rattle.std.proofs.lemmas.Bool.{lt-ltb, le-ltb, le-leb, lt-leb, cases_lt}
use Rattle.base.specs.declared.refusal.Refusal.TheVariants.{StoreFull}
use Rattle.tree.specs.Kinds.{kind_of}
use Rattle.tree.specs.declared.node.Node.{Node}
use Rattle.tree.specs.declared.kind.Kind.{Kind}
use Rattle.tree.specs.declared.kind.Kind.TheVariants as kinds
use Rattle.store.specs.Stores.{Costs, Meaning, cost_of, used, free, holding, passed, put_answer, after_put, install_answer, installed}
use Rattle.store.specs.NodeStores.{unit_costs}

-- two lists, one after the other
pub used-append : (costs : Costs) (xs ys : List Node) → used costs (xs ++ ys) ≡ used costs xs + used costs ys
used-append costs xs ys = sum_by-append (λ x. cost_of costs (kind_of x)) xs ys

-- the first i nodes, and one more, which costs u
pub used-more : (costs : Costs) (xs : List Node) (i u : ℕ) (d : Node) → i < length xs → u ≡ cost_of costs (kind_of (get_or xs i d)) → used costs (take (i + 1) xs) ≡ used costs (take i xs) + u
used-more costs xs i u d h is =
    ap (used costs) (take_more xs i d h) ∙ sum_by_push (λ x. cost_of costs (kind_of x)) (take i xs) (get_or xs i d) ∙ ap (λ k. used costs (take i xs) + k) (sym is)

-- a part costs no more than the whole
pub used-part : (costs : Costs) (xs : List Node) (i : ℕ) → used costs (take i xs) ≤ used costs xs
used-part costs xs i = sum_by-take-le (λ x. cost_of costs (kind_of x)) xs i

-- the same sum by what each node costs
pub used-as : (costs : Costs) (cost : Node → ℕ) → ((x : Node) → cost_of costs (kind_of x) ≡ cost x) → (xs : List Node) → used costs xs ≡ sum_by cost xs
used-as costs cost is [] = refl
used-as costs cost is (x ∷ xs) = sum_by-cons (λ y. cost_of costs (kind_of y)) x xs ∙ ap₂ ◌+◌ (is x) (used-as costs cost is xs) ∙ sym (sum_by-cons cost x xs)

-- each node costs one unit in a node store
pub one-unit : (kind : Kind) → cost_of unit_costs kind ≡ 1
one-unit kinds.Head = refl
one-unit kinds.Keep = refl
one-unit kinds.Split = refl
one-unit kinds.New = refl
one-unit kinds.Leaf = refl
one-unit kinds.None = refl

-- and a list its length
pub used-one : (xs : List Node) → used unit_costs xs ≡ length xs
used-one [] = refl
used-one (x ∷ xs) = let cons = sum_by-cons (λ y. cost_of unit_costs (kind_of y)) x xs in let one = one-unit (kind_of x) in let rest = used-one xs in omega arith

-- what lets in is open
pub passed-open : (b : Bool) → passed b ≡ Ok tt → b ≡ true
passed-open true e = refl
passed-open false e = let z : ◌≡◌ {A = ℕ} 0 1 = cc in absurd (omega arith)

-- a put at an open store
module _ (m : Meaning) (x : Node) (is_open : m.is_open ≡ true) where
  pub put_full : free m < cost_of m.costs (kind_of x) → (put_answer m x ≡ Err StoreFull) × (after_put m x ≡ m)
  put_full h = let e = lt-ltb (free m) (cost_of m.costs (kind_of x)) h in (rw (is_open, e), rw (is_open, e))

  pub put-fits : cost_of m.costs (kind_of x) ≤ free m → (put_answer m x ≡ Ok tt) × (after_put m x ≡ holding m (m.nodes ++ (x ∷ [])) true)
  put-fits h = let e = le-ltb (free m) (cost_of m.costs (kind_of x)) h in (rw (is_open, e), rw (is_open, e))

-- an install
module _ (m : Meaning) (xs : List Node) where
  pub install-fits : used m.costs xs ≤ m.capacity → (install_answer m xs ≡ Ok tt) × (installed m xs ≡ holding m xs false)
  install-fits h = let e = le-leb (used m.costs xs) m.capacity h in (rw e, rw e)

  pub install-full : m.capacity < used m.costs xs → (install_answer m xs ≡ Err StoreFull) × (installed m xs ≡ m)
  install-full h = let e = lt-leb (used m.costs xs) m.capacity h in (rw e, rw e)

  -- what is accepted fits
  pub install-room : install_answer m xs ≡ Ok tt → used m.costs xs ≤ m.capacity
  install-room e =
      ⊎_elim (λ (h : m.capacity < used m.costs xs). let p = sym (install-full h).0 ∙ e in let z : ◌≡◌ {A = ℕ} 0 1 = cc in absurd (omega arith)) (λ h. h) (cases_lt m.capacity (used m.costs xs))

-- two meanings with equal nodes, flags and capacities
pub same-meaning : (xs ys : List Node) (a b : Bool) (n k : ℕ) (costs : Costs) → xs ≡ ys → a ≡ b → n ≡ k →
    ◌≡◌ {A = Meaning} (record { nodes = xs; is_open = a; capacity = n; costs = costs }) (record { nodes = ys; is_open = b; capacity = k; costs = costs })
same-meaning xs ys a b n k costs p q r = cc

-- the next node of a list that fits, put after those before it
pub put_next : (m : Meaning) (now : Meaning) (xs : List Node) (i : ℕ) (d : Node) → i < length xs → used m.costs xs ≤ m.capacity → now ≡ holding m (take i xs) true →
    (put_answer now (get_or xs i d) ≡ Ok tt) × (after_put now (get_or xs i d) ≡ holding m (take (i + 1) xs) true)
put_next m now xs i d h all is =
    let x = get_or xs i d in
    let more = used-more m.costs xs i _ d h refl in
    let part = used-part m.costs xs (i + 1) in
    let p = put-fits (holding m (take i xs) true) x refl (omega arith) in
    let t = take_more xs i d h in
    (ap (λ v. put_answer v x) is ∙ p.0, ap (λ v. after_put v x) is ∙ p.1 ∙ ap (λ v. holding m v true) (sym t))
