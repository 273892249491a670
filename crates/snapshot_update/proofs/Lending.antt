-- Workers that are lent: what a meeting leaves of their data, and that one alone stands behind the reader.
use Rattle.std.proofs.Common.{◌≡◌, ◌≢◌, ℕ, zero, suc, ◌<◌, Some, Bool, true, false, cond, List, [], ◌∷◌, ◌++◌, length, map, set}
use Rattle.std.proofs.Common.{sym, refl, ap, ◌∙◌, subst, arith, eq-eqb, ne_eqb}
use mathlib.Core.Option.{some, some-injective, some-ne-none}
use lib.ListN.{get_elem?}
use Rattle.register_rule.specs.declared.seats.WorkSeat.{WorkSeat}
use Rattle.register_rule.specs.declared.view.Member.{Member}
use Rattle.register_rule.specs.declared.view.Who.{Who}
use Rattle.register_rule.specs.declared.view.Who.TheVariants.{Worker, Reader}
use Rattle.register_rule.specs.Members.{made_of, picked, without, same_who, raised, greatest, met}
use Rattle.register_rule.specs.Rule.{AreOthers, AreApart}
use Rattle.register_rule.specs.declared.view.PublishEntry.{PublishEntry}
use Rattle.ledger_core.specs.declared.op.Op.{Op}
use Rattle.std.proofs.lemmas.List.{length_push}
use Rattle.snapshot_scan.specs.declared.scan_memory.ScanMemory.{ScanMemory}
use Rattle.register_rule.specs.declared.view.ScanLog.{ScanLog}
use Rattle.snapshot_scan.specs.declared.reader.Reader.{Reader as reader}
use Rattle.snapshot_scan.specs.Lent.{IsWorkerAmong}
use Rattle.snapshot_scan.specs.Readers.{members_with}
use Rattle.snapshot_scan.specs.Shape.{with_scan}
use Rattle.snapshot_scan.proofs.Standing.{stands_scanned}
use Rattle.snapshot_scan.proofs.Words.{front_at, at_map}
use Rattle.snapshot_update.specs.declared.worker.Worker.{Worker as worker}
use Rattle.snapshot_update.specs.Workers.{IsLentAs}
use Rattle.snapshot_update.specs.declared.buffer_images.BufferImages.{BufferImages}
use Rattle.snapshot_update.specs.BufferImages.{with_hidden}
use Rattle.snapshot_update.specs.Fit.{IsFit, IsFitOfSeat, HasSeenOwn}
use Rattle.snapshot_update.specs.Updated.{IsUpdated, IsRuledAlone}

pub same_seat : (a b : WorkSeat) → Some a ≡ Some b → a ≡ b
same_seat a b e = cc

-- what a worker knows speaks of nothing that it has seen
pub raised_fit : (n c h g i k : ℕ) (row : List ℕ) (memory : ScanMemory n c h g) (im : BufferImages) (seen : List ℕ) (m : Member)
    → IsFit n c h g i k row memory im m → IsFit n c h g i k row memory im (raised seen m)
raised_fit n c h g i k row memory im seen m f = record {
  who = f.who;
  counts = f.counts;
  words = f.words;
  wide = f.wide;
  row_known = f.row_known;
  ready = record { remembered = f.ready.remembered; rest = f.ready.rest };
  hidden_is = f.hidden_is;
  shown_is = f.shown_is;
  images = f.images;
  late = f.late;
  joined = f.joined;
}

pub raised_holds : (n c h g index number : ℕ) (row : List ℕ) (memory : ScanMemory n c h g) (im : BufferImages) (i : ℕ)
    (seen : List ℕ) (m : Member)
    → IsFitOfSeat n c h g index number row memory im i m
    → IsFitOfSeat n c h g index number row memory im index (raised seen m)
raised_holds n c h g index number row memory im i seen m f = (
  refl,
  f.1,
  raised_fit n c h g index (length m.work.made) row memory im seen m
      (subst (λ (x : ℕ). IsFit n c h g x (length m.work.made) row memory im m) f.0 f.2),
)

-- the last one of a list that was mapped
pub last_mapped : (f : Member → Member) (ms : List Member) (m : Member) → get_elem? (map f (ms ++ m ∷ [])) (length ms) ≡ some
    (f m)
last_mapped f [] m = refl
last_mapped f (x ∷ ms) m = last_mapped f ms m

-- who joins stands behind the others
pub joined_stands : (i : ℕ) (ms : List Member) (m : Member) → m.who ≡ Worker i
    → IsWorkerAmong i (raised (greatest (ms ++ m ∷ [])) m) (met (ms ++ m ∷ []))
joined_stands i ms m is = (length ms, last_mapped (raised (greatest (ms ++ m ∷ []))) ms m, is)

not_worker : (i : ℕ) (who : Who) → who ≢ Worker i → same_who (Worker i) who ≡ false
not_worker i (Reader k) other = refl
not_worker i (Worker j) other = ne_eqb i j (λ e. other (ap Worker (sym e)))

is_worker : (i : ℕ) (who : Who) → who ≡ Worker i → same_who (Worker i) who ≡ true
is_worker i who is = ap (same_who (Worker i)) is ∙ eq-eqb i i refl

none_picked : (i : ℕ) (who : Who) (ms : List Member) → who ≡ Worker i → AreOthers who ms → picked (Worker i) ms ≡ []
none_picked i who [] is others = refl
none_picked i who (m ∷ ms) is others =
    ap (λ (b : Bool). cond b (m ∷ picked (Worker i) ms) (picked (Worker i) ms))
    (not_worker i m.who (λ e. others 0 m refl (e ∙ sym is)))
    ∙ none_picked i who ms is (λ q o e. others (suc q) o e)

-- of members that are apart two at different places have different names
pub apart_at : (ms : List Member) (a b : ℕ) (x y : Member) → AreApart ms → a < b → get_elem? ms a ≡ some x
    → get_elem? ms b ≡ some y → y.who ≢ x.who
apart_at [] a b x y apart lt e h = absurd (some-ne-none x (sym e))
apart_at (m ∷ ms) a zero x y apart lt e h = absurd (omega (arith, lt))
apart_at (m ∷ ms) zero (suc b) x y apart lt e h =
    λ same. apart.0 b y h (same ∙ sym (ap (λ (z : Member). z.who) (some-injective m x e)))
apart_at (m ∷ ms) (suc a) (suc b) x y apart lt e h = apart_at ms a b x y apart.1 (omega (arith, lt)) e h

-- and one alone has each name
pub one_picked : (i : ℕ) (m : Member) (ms : List Member) → AreApart ms → IsWorkerAmong i m ms → picked (Worker i) ms ≡ m ∷ []
one_picked i m [] apart (p, e, is) = absurd (some-ne-none m (sym e))
one_picked i m (x ∷ ms) apart (zero, e, is) =
    let same : x ≡ m = some-injective x m e in let named : x.who ≡ Worker i = ap (λ (y : Member). y.who) same ∙ is in
    ap (λ (b : Bool). cond b (x ∷ picked (Worker i) ms) (picked (Worker i) ms)) (is_worker i x.who named)
    ∙ (ap (λ (l : List Member). x ∷ l) (none_picked i x.who ms named apart.0) ∙ ap (λ (y : Member). y ∷ []) same)
one_picked i m (x ∷ ms) apart (suc p, e, is) =
    ap (λ (b : Bool). cond b (x ∷ picked (Worker i) ms) (picked (Worker i) ms))
    (not_worker i x.who (λ h. apart.0 p m e (is ∙ sym h)))
    ∙ one_picked i m ms apart.1 (p, e, is)

-- a worker that scanned or was told has seen its own number
pub told_own : (n c h g i : ℕ) (m : Member) → m.who ≡ Worker i → IsRuledAlone n c h g m → HasSeenOwn i m
told_own n c h g i m is ruled = let own = ruled.workers 0 i m refl is in own.2
    ∙ ap (λ (l : List PublishEntry). some (length l)) (sym own.1)

set_own : (l : List ℕ) (i x y : ℕ) → get_elem? l i ≡ some x → get_elem? (set l i y) i ≡ some y
set_own [] i x y e = absurd (some-ne-none x (sym e))
set_own (z ∷ l) zero x y e = refl
set_own (z ∷ l) (suc i) x y e = set_own l i x y e

-- and so has one that published
pub updated_own : (n c h g i : ℕ) (ops : List Op) (m m' : Member) → m.who ≡ Worker i → IsUpdated n c h g i ops m m'
    → HasSeenOwn i m'
updated_own n c h g i ops m m' is u =
    let mid : Member = record m { scan = u.scan } in
    let seen = told_own n c h g i mid is u.ruled in
    subst (HasSeenOwn i) (sym u.is) (set_own u.scan.seen i (length m.work.made) (suc (length m.work.made)) seen
    ∙ (let e = length_push m.work.made (made_of ops u.lends (with_hidden u.hidden mid)) in
    let more : suc (length m.work.made) ≡ length (m.work.made ++ made_of ops u.lends (with_hidden u.hidden mid) ∷ []) =
    omega (arith, e) in ap some more))

in_picked : (i : ℕ) (m : Member) (ms : List Member) → IsWorkerAmong i m ms → (q : ℕ)
    × (get_elem? (picked (Worker i) ms) q ≡ some m)
in_picked i m [] (p, e, is) = absurd (some-ne-none m (sym e))
in_picked i m (x ∷ ms) (zero, e, is) =
    let same : x ≡ m = some-injective x m e in let named : x.who ≡ Worker i = ap (λ (y : Member). y.who) same ∙ is in
    (0, ap (λ (b : Bool). get_elem? (cond b (x ∷ picked (Worker i) ms) (picked (Worker i) ms)) 0) (is_worker i x.who named) ∙ e)
in_picked i m (x ∷ ms) (suc p, e, is) = go (same_who (Worker i) x.who) (in_picked i m ms (p, e, is))
  where
    go : (b : Bool) → (q : ℕ) × (get_elem? (picked (Worker i) ms) q ≡ some m) → (q : ℕ)
        × (get_elem? (cond b (x ∷ picked (Worker i) ms) (picked (Worker i) ms)) q ≡ some m)
    go true t = (suc t.0, t.1)
    go false t = t

-- who stands there is the one who is picked
pub is_picked : (i : ℕ) (m x : Member) (ms : List Member) → IsWorkerAmong i m ms → picked (Worker i) ms ≡ x ∷ [] → x ≡ m
is_picked i m x ms stands one = let t = in_picked i m ms stands in
    only t.0 (ap (λ (l : List Member). get_elem? l t.0) (sym one) ∙ t.1)
  where
    only : (q : ℕ) → get_elem? (x ∷ []) q ≡ some m → x ≡ m
    only zero e = some-injective x m e
    only (suc q) e = absurd (some-ne-none m (sym e))

-- the place p of members that others join
pub met_at : (ms ws : List Member) (p : ℕ) (m : Member) → get_elem? ms p ≡ some m
    → get_elem? (met (ms ++ ws)) p ≡ some (raised (greatest (ms ++ ws)) m)
met_at ms ws p m e = at_map (raised (greatest (ms ++ ws))) (ms ++ ws) p m (front_at ms ws p m e)

pub stands_met : (i : ℕ) (m : Member) (ms ws ms' : List Member) → ms' ≡ met (ms ++ ws) → IsWorkerAmong i m ms
    → IsWorkerAmong i (raised (greatest (ms ++ ws)) m) ms'
stands_met i m ms ws ms' joins (p, e, is) = (p, ap (λ (l : List Member). get_elem? l p) joins ∙ met_at ms ws p m e, is)

stays_in : (i j p : ℕ) (m : Member) (ms : List Member) → i ≢ j → get_elem? ms p ≡ some m → m.who ≡ Worker i → (q : ℕ)
    × (get_elem? (without (Worker j) ms) q ≡ some m)
stays_in i j p m [] other e is = absurd (some-ne-none m (sym e))
stays_in i j zero m (x ∷ ms) other e is =
    let same : x ≡ m = some-injective x m e in (
      0,
      ap (λ (b : Bool). get_elem? (cond b (without (Worker j) ms) (x ∷ without (Worker j) ms)) 0)
          (not_worker j x.who (λ h. other (same_index (sym is ∙ (ap (λ (y : Member). y.who) (sym same) ∙ h))))) ∙ e,
    )
  where
    same_index : {a b : ℕ} → Worker a ≡ Worker b → a ≡ b
    same_index h = cc
stays_in i j (suc p) m (x ∷ ms) other e is = go (same_who (Worker j) x.who) (stays_in i j p m ms other e is)
  where
    go : (b : Bool) → (q : ℕ) × (get_elem? (without (Worker j) ms) q ≡ some m) → (q : ℕ)
        × (get_elem? (cond b (without (Worker j) ms) (x ∷ without (Worker j) ms)) q ≡ some m)
    go true t = t
    go false t = (suc t.0, t.1)

pub stands_left : (i j : ℕ) (m : Member) (ms ms' : List Member) → i ≢ j → ms' ≡ without (Worker j) ms → IsWorkerAmong i m ms
    → IsWorkerAmong i m ms'
stands_left i j m ms ms' other left (p, e, is) = let t = stays_in i j p m ms other e is in
    (t.0, ap (λ (l : List Member). get_elem? l t.0) left ∙ t.1, is)

-- a worker that is lent stays lent while others join, while the reader scans, and while others leave
module _ {N C H G : ℕ} (w : worker N C H G) (r r' : reader N C H G) (m : Member) (lent : IsLentAs m w r) where
  pub lent_met : (ws : List Member) → members_with r' ≡ met (members_with r ++ ws)
      → IsLentAs (raised (greatest (members_with r ++ ws)) m) w r'
  lent_met ws joins = record {
    away = lent.away;
    there = stands_met w.index m (members_with r) ws (members_with r') joins lent.there;
    fits = raised_holds N C H G w.index w.number w.row.value w.memory w.images w.index
        (greatest (members_with r ++ ws)) m lent.fits;
  }

  pub lent_scanned : (c : ScanLog) → members_with r' ≡ with_scan c (members_with r) → IsLentAs m w r'
  lent_scanned c same = record {
    away = lent.away;
    there = stands_scanned w.index r.index c m (members_with r) (members_with r') r.is same lent.there;
    fits = lent.fits;
  }

  pub lent_left : (j : ℕ) → w.index ≢ j → members_with r' ≡ without (Worker j) (members_with r) → IsLentAs m w r'
  lent_left j other left = record {
    away = lent.away;
    there = stands_left w.index j m (members_with r) (members_with r') other left lent.there;
    fits = lent.fits;
  }

  -- and while another worker meets the reader
  pub lent_beside : (ws : List Member) (j : ℕ) → w.index ≢ j → members_with r' ≡ without (Worker j) (met (members_with r ++ ws))
      → IsLentAs (raised (greatest (members_with r ++ ws)) m) w r'
  lent_beside ws j other meets = record {
    away = lent.away;
    there = stands_left w.index j (raised (greatest (members_with r ++ ws)) m) (met (members_with r ++ ws))
        (members_with r') other meets (stands_met w.index m (members_with r) ws (met (members_with r ++ ws)) refl lent.there);
    fits = raised_holds N C H G w.index w.number w.row.value w.memory w.images w.index
        (greatest (members_with r ++ ws)) m lent.fits;
  }
