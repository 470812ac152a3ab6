-- Points and postings correspond, and so the least point is the latest posting.
use Rattle.std.proofs.Common.{◌≡◌, ℕ, ◌+◌, ◌⊎◌, List, ◌++◌, ℤ, Some, None, Option, sym, ◌∙◌, subst, inl, inr, arith}
use Rattle.source.specs.Systems.{Point, Precedes}
use Rattle.tree.specs.Answers.{answer_at}
use Rattle.nest.specs.Loops.{AllLong, Loops, Shaped}
use Rattle.nest.specs.Tables.{cell_rows, loop_rows, system_of}
use Rattle.solver_laws.specs.Meaning.{Least, RightAnswer}
use Rattle.solver_laws.proofs.Least.{least-point}
use Rattle.nest_laws.specs.Laws.{Corresponds, LatestPosting, LeastIsLatest, PostingsCorrespond}
use Rattle.nest_laws.specs.Postings.{LatestAnswer, LatestOf, Later, Posting, StandsFor}
use Rattle.nest_laws.proofs.Pairs.{Pairs, pairs-from, pairs-later, pairs-one, pairs-there, pairs-to, pairs-turn, pairs-within}
use Rattle.nest_laws.proofs.Rows.{cells-hold, cells-met, hold-both, hold-parts, loops-hold, loops-within}

-- a row has n + (p + 1) numbers
wide : (L : Loops) → Shaped L → AllLong (L.n + (L.p + 1)) L.cells
wide L s i h = let e : L.n + L.p + 1 ≡ L.n + (L.p + 1) = omega arith in s.cells_long i h ∙ e

pub pairs_of : (L : Loops) (z x c : List ℕ) → Shaped L → StandsFor L z x c → Pairs L.bounds z x c
pairs_of L z x c s f = pairs-from L.bounds z x c (f.counted ∙ sym s.each_bounded) f.turned

stands : (L : Loops) (z x c : List ℕ) → Shaped L → Pairs L.bounds z x c → StandsFor L z x c
stands L z x c s p = let r = pairs-to L.bounds z x c p in record { counted = r.0 ∙ s.each_bounded; turned = r.1 }

point-within : (L : Loops) (z x : List ℕ) → Shaped L → Point (system_of L) z x → (c : List ℕ) × StandsFor L z x c
point-within L z x s p =
    let rows = hold-parts (loop_rows L.n 0 L.bounds) (cell_rows L.n L.bounds L.cells) (x ++ z) p.holds in
    let r = pairs-there L.bounds z x (p.counted ∙ sym s.each_bounded) (loops-within L.n L.bounds z x s.each_bounded p.counted rows.0) in
    (r.0, stands L z x r.0 s r.1)

posting-within : (L : Loops) (z c : List ℕ) → Shaped L → Posting L z c → (x : List ℕ) × StandsFor L z x c
posting-within L z c s p =
    let r = pairs-there L.bounds z c (p.counted ∙ sym s.each_bounded) p.within in
    (r.0, stands L z r.0 c s (pairs-turn L.bounds z c r.0 r.1))

point-posts : (L : Loops) (z x c : List ℕ) → Shaped L → StandsFor L z x c → Point (system_of L) z x → Posting L z c
point-posts L z x c s f p =
    let q = pairs_of L z x c s f in
    let t = pairs-turn L.bounds z x c q in
    let rows = hold-parts (loop_rows L.n 0 L.bounds) (cell_rows L.n L.bounds L.cells) (x ++ z) p.holds in
    record {
      counted = (pairs-to L.bounds z c x t).0 ∙ s.each_bounded;
      within = pairs-within L.bounds z c x t;
      met = cells-met L.n (L.p + 1) L.bounds L.cells z x c (wide L s) s.bounds_long s.each_bounded q rows.1;
    }

posting-solves : (L : Loops) (z x c : List ℕ) → Shaped L → StandsFor L z x c → Posting L z c → Point (system_of L) z x
posting-solves L z x c s f p =
    let q = pairs_of L z x c s f in
    record {
      counted = f.counted;
      holds =
          hold-both (loop_rows L.n 0 L.bounds) (cell_rows L.n L.bounds L.cells) (x ++ z)
          (loops-hold L.n L.bounds z x s.each_bounded f.counted (pairs-within L.bounds z x c q))
          (cells-hold L.n (L.p + 1) L.bounds L.cells z x c (wide L s) s.bounds_long s.each_bounded q p.met);
    }

pub corresponds : (L : Loops) (z : List ℕ) → Shaped L → Corresponds L z
corresponds L z s =
    record {
      counters_of = λ x p. point-within L z x s p;
      unknowns_of = λ c p. posting-within L z c s p;
      one_posting = λ x c d f g. pairs-one L.bounds z x c d (pairs_of L z x c s f) (pairs_of L z x d s g);
      one_point = λ x y c f g. pairs-one L.bounds z c x y (pairs-turn L.bounds z x c (pairs_of L z x c s f)) (pairs-turn L.bounds z y c (pairs_of L z y c s g));
      posts = λ x c f p. point-posts L z x c s f p;
      solves = λ x c f p. posting-solves L z x c s f p;
      later = λ x y c d f g h. pairs-later L.bounds z x y c d (pairs_of L z x c s f) (pairs_of L z y d s g) h;
      precedes = λ x y c d f g h.
          pairs-later L.bounds z d c y x (pairs-turn L.bounds z y d (pairs_of L z y d s g)) (pairs-turn L.bounds z x c (pairs_of L z x c s f)) h;
    }

-- ---- the least point is the latest posting
module _ (L : Loops) (z : List ℕ) (k : Corresponds L z) where
  to-latest : (x c : List ℕ) → StandsFor L z x c → Least (system_of L) z x → LatestOf L z c
  to-latest x c f (p, least) = (k.posts x c f p, λ d q. let y = k.unknowns_of d q in from d y.0 y.1 (least y.0 (k.solves y.0 d y.1 q)))
    where
      from : (d y : List ℕ) → StandsFor L z y d → (x ≡ y) ⊎ Precedes x y → (c ≡ d) ⊎ Later c d
      from d y g (inl h) = inl (k.one_posting x c d f (subst (λ (w : List ℕ). StandsFor L z w d) (sym h) g))
      from d y g (inr h) = inr (k.later x y c d f g h)

  to-least : (x c : List ℕ) → StandsFor L z x c → LatestOf L z c → Least (system_of L) z x
  to-least x c f (q, latest) = (k.solves x c f q, λ y p. let d = k.counters_of y p in from y d.0 d.1 (latest d.0 (k.posts y d.0 d.1 p)))
    where
      from : (y d : List ℕ) → StandsFor L z y d → (c ≡ d) ⊎ Later c d → (x ≡ y) ⊎ Precedes x y
      from y d g (inl h) = inl (k.one_point x y c f (subst (StandsFor L z y) (sym h) g))
      from y d g (inr h) = inr (k.precedes x y c d f g h)

  least-is-latest : LeastIsLatest L z
  least-is-latest = record {
    latest = to-latest;
    least = to-least;
    no_posting = λ none c q. let y = k.unknowns_of c q in none y.0 (k.solves y.0 c y.1 q);
    no_point = λ none x p. let d = k.counters_of x p in none d.0 (k.posts x d.0 d.1 p);
  }

pub postings-correspond : (L : Loops) → Shaped L → PostingsCorrespond L
postings-correspond L s z e = let k = corresponds L z s in (k, least-is-latest L z k)

latest-of : (L : Loops) (z : List ℕ) → Corresponds L z → (o : Option (List ℤ)) → RightAnswer (system_of L) z o → LatestAnswer L z o
latest-of L z k (Some values) (x, e, (p, least)) =
    let c = k.counters_of x p in
    record { unknowns = x; counters = c.0; are = e; stand = c.1; latest = to-latest L z k x c.0 c.1 (p, least) }
latest-of L z k None none = (least-is-latest L z k).no_posting none

pub latest-posting : (L : Loops) → Shaped L → LatestPosting L
latest-posting L s fuel room t n e z m = latest-of L z (corresponds L z s) (answer_at t z) (least-point (system_of L) fuel room t n e z m)
