-- A worker's data fit its member at first.
use Rattle.std.proofs.Common.{◌≡◌, ℕ, zero, suc, ◌<◌, List, [], length, map, replicate, slice_index, Contains, sym, refl, ap, ◌∙◌}
use Rattle.std.proofs.Common.{subst, arith}
use mathlib.Core.Option.{some}
use lib.ListN.{get_elem?, length-replicate}
use Rattle.ledger_core.specs.Ops.{width}
use Rattle.segment_layout.specs.Layout.{depth}
use Rattle.register_rule.specs.declared.view.Member.{Member}
use Rattle.register_rule.specs.declared.view.Version.{Version}
use Rattle.register_rule.specs.Members.{new_worker}
use Rattle.snapshot_scan.specs.declared.scan_memory.ScanMemory.{ScanMemory}
use Rattle.snapshot_scan.specs.ScanMemories.{rows_of, totals_in}
use Rattle.snapshot_scan.proofs.Blank.{zero_in}
use Rattle.snapshot_update.specs.declared.buffer_images.BufferImages.{BufferImages}
use Rattle.snapshot_scan.specs.ChangedItems.{ChangedView}
use Rattle.snapshot_update.specs.Fit.{number_in, IsFit, HasSeenOwn}
use Rattle.snapshot_update.specs.BufferImages.{AreBlank}
use Rattle.snapshot_scan.proofs.Noted.{none_listed}
use Rattle.snapshot_update.proofs.VersionWords.{words_long, numbers_long}
use Rattle.snapshot_update.proofs.Fitting.{rows_many}

same_at : (n i : ℕ) (v : Version) → i < n → get_elem? (replicate n v) i ≡ some v
same_at zero i v h = absurd (omega (arith, h))
same_at (suc n) zero v h = refl
same_at (suc n) (suc i) v h = same_at n i v (omega (arith, h))

none_in : (b : ℕ) (c : ChangedView) → c.items ≡ [] → (j : ℕ) → Contains c.items j → j < b
none_in b c e j has = absurd (none_listed j (subst (λ (l : List ℕ). Contains l j) e has))

module _ (n c h g index : ℕ) (row : List ℕ) (memory : ScanMemory n c h g) (im : BufferImages) (inside : index < n)
    (zeros : row ≡ replicate (width c h g) 0)
    (rows : rows_of memory ≡ replicate n (record { number = 0; row = replicate (width c h g) 0 }))
    (blank : AreBlank (depth n (width c h g)) im) where
  abbrev w : ℕ
  w = width c h g

  abbrev b : ℕ
  b = depth n w

  wide : length row ≡ w
  wide = ap (λ (l : List ℕ). length l) zeros ∙ length-replicate w 0

  at_first : IsFit n c h g index 0 row memory im (new_worker n w b index)
  at_first = record {
    who = refl;
    counts = refl;
    words = λ k lt. ap (λ (l : List ℕ). slice_index l k) zeros ∙ zero_in w k;
    wide = wide;
    row_known = λ _. ap (λ (l : List Version). get_elem? l index) rows
        ∙ (same_at n index (record { number = 0; row = replicate w 0 }) inside
        ∙ (λ z. some (record { number = 0; row = sym zeros z })));
    ready = record { remembered = sym rows; rest = refl };
    hidden_is = sym blank.hidden;
    shown_is = sym blank.shown;
    images = record {
      idle_deep = (let e = words_long w n row 1 (map number_in (rows_of memory)) (totals_in memory) wide
          (numbers_long (rows_of memory) ∙ rows_many n c h g memory) w memory.sizes.1 in omega (arith, e));
      hidden_deep = ap (λ (l : List ℕ). length l) blank.hidden ∙ length-replicate b 0;
      shown_deep = ap (λ (l : List ℕ). length l) blank.shown ∙ length-replicate b 0;
      recent = λ listed. absurd (let e = sym blank.recent ∙ listed in cc);
      recent_inside = none_in b im.recent blank.recent_none;
      late = λ listed. absurd (let e = sym blank.late ∙ listed in cc);
      late_inside = none_in b im.late blank.late_none;
    };
    late = λ listed. absurd (let e = sym blank.late ∙ listed in cc);
    joined = λ yes. absurd (let e = sym blank.joined ∙ yes in cc);
  }

  pub first_fit : (m : Member) → m ≡ new_worker n (width c h g) (depth n (width c h g)) index
      → IsFit n c h g index (length m.work.made) row memory im m
  first_fit m is = subst (λ (x : Member). IsFit n c h g index (length x.work.made) row memory im
      x) (sym is) at_first

zero_at : (n i : ℕ) → i < n → get_elem? {A = ℕ} (replicate n 0) i ≡ some 0
zero_at zero i h = absurd (omega (arith, h))
zero_at (suc n) zero h = refl
zero_at (suc n) (suc i) h = zero_at n i (omega (arith, h))

-- a new worker has seen that it published nothing
pub first_seen : (n c h g i : ℕ) (m : Member) → i < n → m ≡ new_worker n (width c h g) (depth n (width c h g)) i → HasSeenOwn i m
first_seen n c h g i m lt is = subst (HasSeenOwn i) (sym is) (zero_at n i lt)
