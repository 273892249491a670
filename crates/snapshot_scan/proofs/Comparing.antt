-- Two readers that meet, and two vectors that compare.
use Rattle.std.proofs.Common.{◌≡◌, ◌≢◌, inl, inr, ⊎_elim, ℕ, ◌<◌, Bool, false, cond, List, [], ◌∷◌, ◌++◌, length, slice_index}
use Rattle.std.proofs.Common.{sym, refl, ap, ◌∙◌, subst, arith, eq-eqb, ne_eqb}
use Rattle.register_rule.specs.declared.view.Member.{Member}
use Rattle.register_rule.specs.declared.view.Who.{Who}
use Rattle.register_rule.specs.declared.view.Who.TheVariants.{Worker, Reader}
use Rattle.register_rule.specs.History.{Below, Comparable}
use Rattle.register_rule.specs.Members.{first_of, picked, without, same_who, raised, greatest, met}
use Rattle.register_rule.specs.Rule.{AreApart}
use Rattle.register_rule.proofs.Words.{there}

pub itself : (k : ℕ) (m : Member) → m.who ≡ Reader k → picked (Reader k) (m ∷ []) ≡ m ∷ []
itself k m is = ap (λ (w : Who). cond (same_who (Reader k) w) (m ∷ []) []) is
    ∙ ap (λ (b : Bool). cond b (m ∷ []) []) (eq-eqb k k refl)

not_it : (k : ℕ) (who : Who) → who ≢ Reader k → same_who (Reader k) who ≡ false
not_it k (Worker i) other = refl
not_it k (Reader j) other = ne_eqb k j (λ e. other (ap Reader (sym e)))

module _ (k : ℕ) (a b : Member) (is : b.who ≡ Reader k) where
  abbrev pub guest : Member
  guest = raised (greatest (a ∷ b ∷ [])) b

  abbrev pub host : Member
  host = raised (greatest (a ∷ b ∷ [])) a

  module _ (apart : AreApart (host ∷ guest ∷ [])) where
    other : same_who (Reader k) a.who ≡ false
    other = not_it k a.who (λ e. apart.0 0 guest refl (is ∙ sym e))

    pub guest_picked : picked (Reader k) (host ∷ guest ∷ []) ≡ guest ∷ []
    guest_picked = ap (λ (t : Bool). cond t (host ∷ picked (Reader k) (guest ∷ [])) (picked (Reader k) (guest ∷ []))) other
        ∙ itself k guest is

    pub host_left : without (Reader k) (host ∷ guest ∷ []) ≡ host ∷ []
    host_left = ap (λ (t : Bool). cond t (without (Reader k) (guest ∷ [])) (host ∷ without (Reader k) (guest ∷ []))) other
        ∙ ap (λ (l : List Member). host ∷ l) (ap (λ (w : Who). cond (same_who (Reader k) w) [] (guest ∷ [])) is
        ∙ ap (λ (t : Bool). cond t [] (guest ∷ [])) (eq-eqb k k refl))

-- reader k alone, parted from its own seat
pub parted : (k : ℕ) (ms : List Member) → ms ≡ first_of ms ∷ [] → (first_of ms).who ≡ Reader k
    → picked (Reader k) ms ≡ first_of ms ∷ []
parted k ms alone is = ap (picked (Reader k)) alone ∙ itself k (first_of ms) is

-- one reader alone, which reader k joins that was alone
module _ (k : ℕ) (one other guests joined : List Member) (alone : one ≡ first_of one ∷ []) (alone' : other ≡ first_of other ∷ [])
    (is : (first_of other).who ≡ Reader k)
    (guests_are : guests ≡ picked (Reader k) other) (joins : joined ≡ met (one ++ guests)) (apart : AreApart joined) where
  pub both : joined ≡ met (first_of one ∷ first_of other ∷ [])
  both = joins ∙ (λ z. met (alone z ++ (guests_are ∙ parted k other alone' is) z))

  pub stays : without (Reader k) joined ≡ host k (first_of one) (first_of other) is ∷ []
  stays = ap (without (Reader k)) both ∙ host_left k (first_of one) (first_of other) is (subst AreApart both apart)

  pub goes : picked (Reader k) joined ≡ guest k (first_of one) (first_of other) is ∷ []
  goes = ap (picked (Reader k)) both ∙ guest_picked k (first_of one) (first_of other) is (subst AreApart both apart)

-- where one of two vectors that compare is smaller at a place, it is above the other at no place
pub smaller : (u v : List ℕ) (k : ℕ) → length u ≡ length v → k < length u → slice_index u k < slice_index v k → Comparable u v
    → Below u v × (u ≢ v)
smaller u v k same lt less t = (
  ⊎_elim (λ h. h) (λ h. absurd (let a = there u k 0 lt in let b = there v k 0 (omega (arith, same, lt)) in
      let e = h k (slice_index v k) (slice_index u k) b a in omega (arith, e, less))) t,
  λ e. let d = ap (λ (l : List ℕ). slice_index l k) e in omega (arith, d, less),
)

pub swapped : (u v : List ℕ) → Comparable u v → Comparable v u
swapped u v t = ⊎_elim (λ h. inr h) (λ h. inl h) t
