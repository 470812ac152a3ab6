-- Nodes written into the work table, one run of them after another.
use Rattle.std.proofs.Common.{◌≡◌, ℕ, suc, ◌+◌, ◌-◌, ◌<◌, ◌≤◌, Bool, true, false, cond, ltb, List, [], ◌∷◌, ◌++◌, map, length, get_or, take, drop, set, replicate, ℤ, pos, Ok, Err, sym, refl, ap, ◌∙◌, subst, add-one, arith}
use Rattle.std.proofs.lemmas.List.{append_assoc, at_drop_all, at_drop_more, drop_at, drop-drop, length-append, length-drop, length-map, length-take-le, map_more, set_at, set_split, take_all, take-append-drop, take_at}
use Rattle.std.proofs.lemmas.Bool.{ltb-true}
use Rattle.base.specs.declared.refusal.Place.TheVariants.{Node}
use Rattle.base.specs.declared.refusal.Refusal.TheVariants.{WorkFull}
use Rattle.tableau.specs.declared.table.Row.{Row}
use Rattle.tableau.specs.Tables.{no_row}
use Rattle.tree.specs.declared.node.Node.{Node as TreeNode}
use Rattle.tree.specs.declared.node.Node.TheVariants.{Keep}
use Rattle.tree.specs.Trees.{six_forms}
use Rattle.solver.specs.declared.context.Context.{Context}
use Rattle.solver.specs.declared.count.Count.{Count}
use Rattle.solver.specs.declared.count.Stopped.{Stopped}
use Rattle.solver.specs.Bounds.{in_force}
use Rattle.solver.specs.Runs.{Limits, Run, noted, next, return, write, ◌>>◌, stopped_at}
use Rattle.solver.specs.Solves.{keeps}
use Rattle.solver.specs.Ties.{Wrote, counted, limits, noted_in, solution_of}

pub wrote_none : (a : List TreeNode) (from : ℕ) → Wrote a from [] a
wrote_none a from = sym (take-append-drop from a) ∙ ap (λ n. take from a ++ drop n a) (let e : from ≡ from + 0 = omega arith in e)

pub wrote_one : (a : List TreeNode) (from : ℕ) (v : TreeNode) → from < length a → Wrote a from (v ∷ []) (set a from v)
wrote_one a from v h = set_split a from v h ∙ ap (λ n. take from a ++ v ∷ drop n a) (sym (add-one from))

module _ (a : List TreeNode) (from : ℕ) (ns b : List TreeNode) (room : from + length ns ≤ length a) (w : Wrote a from ns b) where
  front : length (take from a ++ ns) ≡ from + length ns
  front = length-append (take from a) ns ∙ ap (λ n. n + length ns) (length-take-le from a (omega arith))

  parts : b ≡ take from a ++ ns ++ drop (from + length ns) a
  parts = w ∙ sym (append_assoc (take from a) ns (drop (from + length ns) a))

  pub wrote-length : length b ≡ length a
  wrote-length =
      ap length parts ∙ length-append (take from a ++ ns) (drop (from + length ns) a)
      ∙ (let f = front in let d = length-drop (from + length ns) a in omega arith)

  behind : (m : ℕ) → drop (from + length ns + m) b ≡ drop (from + length ns + m) a
  behind m =
      sym (drop-drop m (from + length ns) b)
      ∙ ap (drop m) (ap (drop (from + length ns)) parts ∙ drop_at (take from a ++ ns) (drop (from + length ns) a) (from + length ns) front)
      ∙ drop-drop m (from + length ns) a

  pub wrote-trans : (ms c : List TreeNode) → Wrote b (from + length ns) ms c → Wrote a from (ns ++ ms) c
  wrote-trans ms c v =
      let t : take (from + length ns) b ≡ take from a ++ ns = ap (take (from + length ns)) parts ∙ take_at (take from a ++ ns) (drop (from + length ns) a) (from + length ns) front in
      let l = length-append ns ms in
      let e : from + length ns + length ms ≡ from + length (ns ++ ms) = omega arith in
      v ∙ ap (λ l. l ++ (ms ++ drop (from + length ns + length ms) b)) t
      ∙ ap (λ l. take from a ++ ns ++ (ms ++ l)) (behind (length ms) ∙ ap (λ n. drop n a) e)
      ∙ append_assoc (take from a) ns (ms ++ drop (from + length (ns ++ ms)) a)
      ∙ ap (λ l. take from a ++ l) (sym (append_assoc ns ms (drop (from + length (ns ++ ms)) a)))

-- ---- the rules' write of a node
pub write-is : (l : Limits) (c : Count) → write Node l c ≡ counted (noted_in l.room c)
unfolding write
write-is l c = go (ltb c.nodes l.room)
  where
    go : (b : Bool) → cond b (Ok (tt, noted c)) (Err (stopped_at WorkFull Node c)) ≡ counted (cond b (Ok (noted c)) (Err (stopped_at WorkFull Node c)))
    go true = refl
    go false = refl

pub write_then : {A : Type 0} (m : Run A) (l : Limits) (c : Count) → (write Node >> m) l c ≡ next (counted (noted_in l.room c)) (λ _. m) l
unfolding ◌>>◌
write_then m l c = ap (λ o. next o (λ _. m) l) (write-is l c)

-- with what the code's write answered
pub write-made : {A : Type 0} (m : Run A) (l : Limits) (c d : Count) → Ok d ≡ noted_in l.room c → (write Node >> m) l c ≡ m l d
write-made m l c d e = write_then m l c ∙ ap (λ r. next (counted r) (λ _. m) l) (sym e)

pub write-refused : {A : Type 0} (m : Run A) (l : Limits) (c : Count) (why : Stopped) → Err why ≡ noted_in l.room c → (write Node >> m) l c ≡ Err why
write-refused m l c why e = write_then m l c ∙ ap (λ r. next (counted r) (λ _. m) l) (sym e)

-- ---- the forms of a leaf, one unknown after another
-- those of the first rows, then zeros
abbrev pub LeafFilled : List Row → ℕ → List (List ℤ) → Type 0
LeafFilled rows h forms = forms ≡ map solution_of (take h rows) ++ replicate (6 - h) (replicate 10 (pos 0))

pub leaf-more : (rows : List Row) (h : ℕ) (forms : List (List ℤ)) (v : List ℤ) → h < length rows → h < 6 → v ≡ solution_of (get_or rows h no_row) → LeafFilled rows h forms → LeafFilled rows (h + 1) (set forms h v)
leaf-more rows h forms v inside few e f =
    let ss = map solution_of (take h rows) in
    let zs = replicate (6 - (h + 1)) (replicate 10 (pos 0)) in
    let l : length ss ≡ h = length-map (take h rows) solution_of ∙ length-take-le h rows (omega arith) in
    let s : 6 - h ≡ suc (6 - (h + 1)) = omega arith in
    ap (λ xs. set xs h v) (f ∙ ap (λ n. ss ++ replicate n (replicate 10 (pos 0))) s)
    ∙ set_at ss (replicate 10 (pos 0)) zs v h l
    ∙ ap (λ x. ss ++ x ∷ zs) e
    ∙ sym (append_assoc ss (solution_of (get_or rows h no_row) ∷ []) zs)
    ∙ ap (λ xs. xs ++ zs) (sym (map_more solution_of rows h no_row inside))

pub leaf-all : (rows : List Row) (h : ℕ) (forms : List (List ℤ)) → h ≤ length rows → LeafFilled rows h forms → forms ≡ six_forms (map solution_of (take h rows))
leaf-all rows h forms inside f =
    let l : length (map solution_of (take h rows)) ≡ h = length-map (take h rows) solution_of ∙ length-take-le h rows inside in
    f ∙ ap (λ n. map solution_of (take h rows) ++ replicate (6 - n) (replicate 10 (pos 0))) (sym l)

-- ---- the keeps, one after another
-- a node that was counted had room
pub noted-from : (room : ℕ) (c d : Count) → Ok d ≡ noted_in room c → (c.nodes < room) × (d ≡ noted c)
noted-from room c d e = go (ltb c.nodes room) refl e
  where
    go : (b : Bool) → ltb c.nodes room ≡ b → Ok d ≡ cond b (Ok (noted c)) (Err (stopped_at WorkFull Node c)) → (c.nodes < room) × (d ≡ noted c)
    go true is e = (ltb-true c.nodes room is, cc)
    go false is e = absurd (let z : ◌≡◌ {A = ℕ} 0 1 = cc in let no : ⊥ = omega arith in no)

keeps-none : (l : Limits) (c : Count) → keeps [] l c ≡ Ok (tt, c)
unfolding keeps return
keeps-none l c = refl

keeps-more : (C : List ℤ) (Cs : List (List ℤ)) (l : Limits) (c d : Count) → Ok d ≡ noted_in l.room c → keeps (C ∷ Cs) l c ≡ keeps Cs l d
unfolding keeps
keeps-more C Cs l c d e = write-made (keeps Cs) l c d e

keeps-refused : (C : List ℤ) (Cs : List (List ℤ)) (l : Limits) (c : Count) (why : Stopped) → Err why ≡ noted_in l.room c → keeps (C ∷ Cs) l c ≡ Err why
unfolding keeps
keeps-refused C Cs l c why e = write-refused (keeps Cs) l c why e

-- the first k forms are written, from a table `a` to a table `b`, and what is left gives what all give
pub record Kept (ctx : Context) (a : List TreeNode) (start : Count) (k : ℕ) (b : List TreeNode) (c : Count) : Type 0 where
  pub inside : k ≤ length (in_force ctx)
  pub steps : c.steps ≡ start.steps
  pub nodes : c.nodes ≡ start.nodes + k
  pub room : start.nodes ≤ length a → c.nodes ≤ length a
  pub long : length b ≡ length a
  pub wrote : Wrote a start.nodes (map Keep (take k (in_force ctx))) b
  pub left : (fuel : ℕ) → keeps (drop k (in_force ctx)) (limits fuel (length a)) c ≡ keeps (in_force ctx) (limits fuel (length a)) start

module _ (ctx : Context) (a : List TreeNode) (start : Count) (k : ℕ) (b : List TreeNode) (c : Count) (i : Kept ctx a start k b c) where
  module _ (here : k < length (in_force ctx)) where
    pub kept_more : (b' : List TreeNode) (d : Count) (form : List ℤ) → form ≡ get_or (in_force ctx) k [] → Ok d ≡ noted_in (length b) c → Wrote b c.nodes (Keep form ∷ []) b' → Kept ctx a start (k + 1) b' d
    kept_more b' d form same e w =
        let n = noted-from (length b) c d e in
        let more : d.nodes ≡ c.nodes + 1 = ap (λ x. x.nodes) n.1 ∙ sym (add-one c.nodes) in
        let lk : length (map Keep (take k (in_force ctx))) ≡ k = length-map (take k (in_force ctx)) Keep ∙ length-take-le k (in_force ctx) (omega arith) in
        let from : c.nodes ≡ start.nodes + length (map Keep (take k (in_force ctx))) = omega (arith, lk, i.nodes) in
        let all : map Keep (take k (in_force ctx)) ++ Keep form ∷ [] ≡ map Keep (take (k + 1) (in_force ctx)) =
        ap (λ x. map Keep (take k (in_force ctx)) ++ Keep x ∷ []) same ∙ sym (map_more Keep (in_force ctx) k [] here)
        in
        record {
          inside = omega arith;
          steps = ap (λ x. x.steps) n.1 ∙ i.steps;
          nodes = omega (arith, more, i.nodes);
          room = λ h. omega (arith, more, n.0, i.long);
          long = wrote-length b c.nodes (Keep form ∷ []) b' (omega (arith, n.0)) w ∙ i.long;
          wrote = subst (λ ns. Wrote a start.nodes ns b') all (wrote-trans a start.nodes (map Keep (take k (in_force ctx))) b (omega (arith, from, n.0, i.long)) i.wrote (Keep form ∷ []) b' (subst (λ m. Wrote b m (Keep form ∷ []) b') from w));
          left = λ fuel.
              sym (keeps-more (get_or (in_force ctx) k []) (drop (k + 1) (in_force ctx)) (limits fuel (length a)) c d (e ∙ ap (λ m. noted_in m c) i.long))
              ∙ sym (at_drop_more (λ xs. keeps xs (limits fuel (length a)) c) (in_force ctx) k [] here) ∙ i.left fuel;
        }

    pub kept-refused : (why : Stopped) → Err why ≡ noted_in (length b) c → (fuel : ℕ) → keeps (in_force ctx) (limits fuel (length a)) start ≡ Err why
    kept-refused why e fuel =
        sym (i.left fuel) ∙ at_drop_more (λ xs. keeps xs (limits fuel (length a)) c) (in_force ctx) k [] here
        ∙ keeps-refused (get_or (in_force ctx) k []) (drop (k + 1) (in_force ctx)) (limits fuel (length a)) c why (e ∙ ap (λ m. noted_in m c) i.long)

  module _ (all-length : length (in_force ctx) ≤ k) where
    pub kept-all : (fuel : ℕ) → keeps (in_force ctx) (limits fuel (length a)) start ≡ Ok (tt, c)
    kept-all fuel =
        sym (i.left fuel) ∙ at_drop_all (λ xs. keeps xs (limits fuel (length a)) c) (in_force ctx) k all-length
        ∙ keeps-none (limits fuel (length a)) c

    pub kept-wrote : Wrote a start.nodes (map Keep (in_force ctx)) b
    kept-wrote = subst (λ Cs. Wrote a start.nodes (map Keep Cs) b) (take_all k (in_force ctx) all-length) i.wrote
