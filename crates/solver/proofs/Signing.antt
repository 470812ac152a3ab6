-- The sign of a form, and the signs of rows in order.
use Rattle.std.proofs.Common.{◌≡◌, ℕ, ◌+◌, ◌≤◌, Bool, true, false, cond, ◌&&◌, List, [], ◌∷◌, get_or, ℤ, pos, Ok, Err, sym, refl, ap, ◌∙◌, arith}
use lib.Signed.{lt_z}
use Rattle.base.specs.Forms.{opposite}
use Rattle.base.specs.Numbers.{at}
use Rattle.tableau.specs.declared.table.Row.{Row}
use Rattle.tableau.specs.Tables.{no_row}
use Rattle.solver.specs.declared.context.Context.{Context}
use Rattle.solver.specs.declared.count.Count.{Count}
use Rattle.solver.specs.declared.count.Stopped.{Stopped}
use Rattle.solver.specs.declared.sign.Scan.{Scan as Found}
use Rattle.solver.specs.declared.sign.Scan.TheVariants.{Negative as NegativeAt, Unsure, Clear}
use Rattle.solver.specs.declared.sign.Sign.{Sign}
use Rattle.solver.specs.declared.sign.Sign.TheVariants.{NonNegative, Negative, Unknown}
use Rattle.solver.specs.Bounds.{SameContext, ScanBelow}
use Rattle.solver.specs.Runs.{Limits, Outcome, Run, return, next, ◌>>=◌}
use Rattle.solver.specs.Rules.{Scan, Work, after_above, after_below, below, clear, none_above, none_below, recall, scan, scanned, sign_in, test_with, unsure}
use Rattle.solver.specs.Ties.{KnownAs, first_unsure, scan_at}

pub known_same : (x y : Context) (s : Work) → SameContext x y → KnownAs x s → KnownAs y s
known_same x y s e k = record { context = k.context ∙ sym e.rows; parameters = k.parameters ∙ sym e.parameters; made = k.made ∙ sym e.made }

-- ---- one sign
module _ (s : Work) (C : List ℤ) (l : Limits) (c : Count) where
  pub sign-nonnegative : none_below C ≡ true → sign_in s C l c ≡ Ok (NonNegative, c)
  unfolding sign_in return
  sign-nonnegative e = ap (λ b. cond b (return NonNegative) (cond (lt_z (at C 9) (pos 0) && none_above C) (return Negative) (test_with s (opposite C) >>= after_below s C)) l c) e

  pub sign-negative : none_below C ≡ false → (lt_z (at C 9) (pos 0) && none_above C) ≡ true → sign_in s C l c ≡ Ok (Negative, c)
  unfolding sign_in return
  sign-negative e f =
      ap (λ b. cond b (return NonNegative) (cond (lt_z (at C 9) (pos 0) && none_above C) (return Negative) (test_with s (opposite C) >>= after_below s C)) l c) e
      ∙ ap (λ b. cond b (return Negative) (test_with s (opposite C) >>= after_below s C) l c) f

  module _ (e : none_below C ≡ false) (f : (lt_z (at C 9) (pos 0) && none_above C) ≡ false) where
    tests : sign_in s C l c ≡ next (test_with s (opposite C) l c) (after_below s C) l
    unfolding sign_in ◌>>=◌
    tests =
        ap (λ b. cond b (return NonNegative) (cond (lt_z (at C 9) (pos 0) && none_above C) (return Negative) (test_with s (opposite C) >>= after_below s C)) l c) e
        ∙ ap (λ b. cond b (return Negative) (test_with s (opposite C) >>= after_below s C) l c) f

    pub sign-broken : (r : Stopped) → test_with s (opposite C) l c ≡ Err r → sign_in s C l c ≡ Err r
    sign-broken r h = tests ∙ ap (λ o. next o (after_below s C) l) h

    pub sign-not-below : (d : Count) → test_with s (opposite C) l c ≡ Ok (false, d) → sign_in s C l c ≡ Ok (NonNegative, d)
    unfolding after_below return
    sign-not-below d h = tests ∙ ap (λ o. next o (after_below s C) l) h

    pub sign-second : (d : Count) → test_with s (opposite C) l c ≡ Ok (true, d) → (o : Outcome Bool) → test_with s C l d ≡ o → sign_in s C l c ≡ next o after_above l
    unfolding after_below ◌>>=◌
    sign-second d h o k = tests ∙ ap (λ o. next o (after_below s C) l) h ∙ ap (λ o. next o after_above l) k

pub above-done : (l : Limits) (d : Count) (b : Bool) → next (Ok (b, d)) after_above l ≡ Ok (cond b Unknown Negative, d)
unfolding after_above return
above-done l d true = refl
above-done l d false = refl

-- ---- signs in row order; what was found before is remembered
abbrev pub remembered : List Row → Found → Outcome Scan → Outcome Scan
remembered rows Clear o = o
remembered rows (NegativeAt k) o = o
remembered rows (Unsure k) (Ok v) = Ok (recall (get_or rows k no_row) v.0, v.1)
remembered rows (Unsure k) (Err e) = Err e

-- no negative row is found before the end
abbrev pub NotYet : Found → Type 0
NotYet (NegativeAt k) = ⊥
NotYet (Unsure k) = Unit {0}
NotYet Clear = Unit {0}

pub remembers-refusal : (rows : List Row) (f : Found) (e : Stopped) → remembered rows f (Err e) ≡ Err e
remembers-refusal rows Clear e = refl
remembers-refusal rows (NegativeAt k) e = refl
remembers-refusal rows (Unsure k) e = refl

pub remembers-negative : (rows : List Row) (f : Found) (r : Row) (c : Count) → remembered rows f (Ok (below r, c)) ≡ Ok (below r, c)
remembers-negative rows Clear r c = refl
remembers-negative rows (NegativeAt k) r c = refl
remembers-negative rows (Unsure k) r c = refl

pub remembers-end : (rows : List Row) (f : Found) (c : Count) → NotYet f → remembered rows f (Ok (clear, c)) ≡ Ok (scan_at rows f, c)
remembers-end rows Clear c n = refl
remembers-end rows (NegativeAt k) c n = absurd n
remembers-end rows (Unsure k) c n = refl

recall-first : (q r : Row) (f : Scan) → recall q (recall r f) ≡ recall q f
recall-first q r (below i) = refl
recall-first q r (unsure i) = refl
recall-first q r clear = refl

pub remembers-unsure : (rows : List Row) (f : Found) (h : ℕ) (o : Outcome Scan) → NotYet f → remembered rows f (remembered rows (Unsure h) o) ≡ remembered rows (first_unsure f h) o
remembers-unsure rows Clear h o n = refl
remembers-unsure rows (NegativeAt k) h o n = absurd n
remembers-unsure rows (Unsure k) h (Ok v) n = ap (λ x. Ok (x, v.1)) (recall-first (get_or rows k no_row) (get_or rows h no_row) v.0)
remembers-unsure rows (Unsure k) h (Err e) n = refl

pub not-yet-unsure : (f : Found) (h : ℕ) → NotYet f → NotYet (first_unsure f h)
not-yet-unsure Clear h n = tt
not-yet-unsure (NegativeAt k) h n = n
not-yet-unsure (Unsure k) h n = tt

-- a turn: the sign of the next row is o
module _ (sign : List ℤ → Run Sign) (rows : List Row) (f : Found) (r : Row) (rs : List Row) (l : Limits) (c : Count) where
  pub scan-broken : (e : Stopped) → sign r.form l c ≡ Err e → remembered rows f (scan sign (r ∷ rs) l c) ≡ Err e
  unfolding scan ◌>>=◌
  scan-broken e h = ap (λ o. remembered rows f (next o (scanned r (scan sign rs)) l)) h ∙ remembers-refusal rows f e

  pub scan-nonnegative : (d : Count) → sign r.form l c ≡ Ok (NonNegative, d) → remembered rows f (scan sign (r ∷ rs) l c) ≡ remembered rows f (scan sign rs l d)
  unfolding scan scanned ◌>>=◌
  scan-nonnegative d h = ap (λ o. remembered rows f (next o (scanned r (scan sign rs)) l)) h

  pub scan-negative : (d : Count) → sign r.form l c ≡ Ok (Negative, d) → remembered rows f (scan sign (r ∷ rs) l c) ≡ Ok (below r, d)
  unfolding scan scanned ◌>>=◌ return
  scan-negative d h = ap (λ o. remembered rows f (next o (scanned r (scan sign rs)) l)) h ∙ remembers-negative rows f r d

  pub scan-unknown : (d : Count) (h : ℕ) → get_or rows h no_row ≡ r → NotYet f → sign r.form l c ≡ Ok (Unknown, d) → remembered rows f (scan sign (r ∷ rs) l c) ≡ remembered rows (first_unsure f h) (scan sign rs l d)
  unfolding scan scanned ◌>>=◌ return
  scan-unknown d h e n k =
      ap (λ o. remembered rows f (next o (scanned r (scan sign rs)) l)) k ∙ ap (remembered rows f) (go (scan sign rs l d)) ∙ remembers-unsure rows f h (scan sign rs l d) n
    where
      go : (o : Outcome Scan) → next o (λ found. return (recall r found)) l ≡ remembered rows (Unsure h) o
      go (Ok v) = ap (λ q. Ok (recall q v.0, v.1)) (sym e)
      go (Err x) = refl

pub scan-end : (sign : List ℤ → Run Sign) (l : Limits) (c : Count) → scan sign [] l c ≡ Ok (clear, c)
unfolding scan return
scan-end sign l c = refl

pub below-up : (f : Found) (m n : ℕ) → m ≤ n → ScanBelow m f → ScanBelow n f
below-up Clear m n h b = tt
below-up (NegativeAt k) m n h b = omega arith
below-up (Unsure k) m n h b = omega arith

pub below-unsure : (f : Found) (h : ℕ) → ScanBelow h f → ScanBelow (h + 1) (first_unsure f h)
below-unsure Clear h b = omega arith
below-unsure (NegativeAt k) h b = omega arith
below-unsure (Unsure k) h b = omega arith
