-- Bytes are read in one way: as the groups of one list at most.
use Rattle.std.proofs.Common.{◌≡◌, ℕ, List, [], ◌∷◌, drop, length, get_or, map, refl, sym, ap, ap₂, ◌∙◌, subst, inl, inr, arith}
use Rattle.std.specs.Prelude.{ℤ, pos, neg_ℤ}
use Rattle.std.proofs.lemmas.List.{append_cancel_right}
use Rattle.metric_names.proofs.Escapes.{help_alone, label_alone}
use Rattle.metric_desc.specs.declared.kind.Kind.{Kind}
use Rattle.metric_desc.specs.declared.kind.Kind.TheVariants.{Counter, Histogram, Gauge}
use Rattle.expo_text.specs.Samples.{Sample}
use Rattle.expo_text.specs.Groups.{Group}
use Rattle.expo_text.specs.Lines.{Written}
use Rattle.expo_text.proofs.Walked.{entry_of, parts_of, ReadsWalked}
use Rattle.expo_text.proofs.Walks.{walked}
use Rattle.expo_text.specs.Parts.{Part}
use Rattle.expo_text.specs.Shifted.{WritesTo}
use Rattle.expo_text.specs.Reads.{Match, IsHelpOf, word_of, IsLabel}
use Rattle.expo_text.specs.ReadsTo.{WritesValueTo, IsSampleTo, IsGroupTo, ReadsTo}
use Rattle.expo_text.proofs.ShiftedNumbers.{writes_one, writes_first}

-- where each element has one partner, each list has one
match_one : {A B : Type 0} (R : A → B → Type 0) → ((x : A) (y z : B) → R x y → R x z → y ≡ z)
    → (xs : List A) (ys zs : List B) → Match R xs ys → Match R xs zs → ys ≡ zs
match_one R one [] [] [] m n = refl
match_one R one [] [] (z ∷ zs) m n = absurd n
match_one R one [] (y ∷ ys) zs m n = absurd m
match_one R one (x ∷ xs) [] zs m n = absurd m
match_one R one (x ∷ xs) (y ∷ ys) [] m n = absurd n
match_one R one (x ∷ xs) (y ∷ ys) (z ∷ zs) m n = ap₂ (λ v vs. v ∷ vs) (one x y z m.0 n.0) (match_one R one xs ys zs m.1 n.1)

label_one : (written a b : List ℕ × List ℕ) → IsLabel written a → IsLabel written b → a ≡ b
label_one written a b is_a is_b =
    ap₂ (λ x y. (x, y)) (is_a.name ∙ sym is_b.name) (label_alone b.1 a.1 written.1 is_b.value is_a.value)

-- what writes a number does not begin with a minus
no_minus : (places : ℕ) (digits token : List ℕ) (n : ℕ) → token ≡ 45 ∷ digits → WritesTo places token n → ⊥
no_minus places digits token n is writes =
    let first = writes_first places token n writes in let minus = ap (λ l. get_or l 0 0) is in omega (arith, first, minus)

value_one : (places : ℕ) (kind : Kind) (token : List ℕ) (y z : ℤ) → WritesValueTo places kind token y
    → WritesValueTo places kind token z → y ≡ z
value_one places kind token y z (inl m) (inl n) = m.2 ∙ ap pos (writes_one places token m.0 n.0 m.1 n.1) ∙ sym n.2
value_one places kind token y z (inl m) (inr n) = absurd (no_minus places n.0 token m.0 n.3 m.1)
value_one places kind token y z (inr m) (inl n) = absurd (no_minus places m.0 token n.0 m.3 n.1)
value_one places kind token y z (inr m) (inr n) =
    let same_digits : m.0 ≡ n.0 = ap (λ bytes. drop 1 bytes) (sym m.3 ∙ n.3) in
    let one = writes_one places n.0 m.1 n.1 (subst (λ t. WritesTo places t m.1) same_digits m.4) n.4 in
    m.5 ∙ ap (λ k. neg_ℤ (pos k)) one ∙ sym n.5

kind_one : (k l : Kind) → word_of k ≡ word_of l → k ≡ l
kind_one Counter Counter e = refl
kind_one Counter Histogram e = let h = ap length e in absurd (omega (arith, h))
kind_one Counter Gauge e = let h = ap length e in absurd (omega (arith, h))
kind_one Histogram Counter e = let h = ap length e in absurd (omega (arith, h))
kind_one Histogram Histogram e = refl
kind_one Histogram Gauge e = let h = ap length e in absurd (omega (arith, h))
kind_one Gauge Counter e = let h = ap length e in absurd (omega (arith, h))
kind_one Gauge Histogram e = let h = ap length e in absurd (omega (arith, h))
kind_one Gauge Gauge e = refl

sample_one : (places : ℕ) (kind : Kind) (written : Written) (a b : Sample) → IsSampleTo places kind written a
    → IsSampleTo places kind written b → a ≡ b
sample_one places kind written a b is_a is_b =
    let make : List ℕ → List (List ℕ × List ℕ) → ℤ → Sample = λ n l v. record { name = n; labels = l; value = v } in
    ap (λ n. make n a.labels a.value) (is_a.name ∙ sym is_b.name)
    ∙ ap (λ l. make b.name l a.value) (match_one IsLabel label_one written.labels a.labels b.labels is_a.labels is_b.labels)
    ∙ ap (λ v. make b.name b.labels v) (value_one places kind written.value a.value b.value is_a.value is_b.value)

help_one : (helps : List (List ℕ)) (a b : List ℕ) → IsHelpOf helps a → IsHelpOf helps b → a ≡ b
help_one [] a b is_a is_b = is_a ∙ sym is_b
help_one (written ∷ []) a b is_a is_b = help_alone b a written is_b is_a
help_one (_ ∷ _ ∷ _) a b is_a is_b = absurd is_a

group_one : (places : ℕ) (part : Part) (a b : Group) → IsGroupTo places part a → IsGroupTo places part b → a ≡ b
group_one places part a b is_a is_b =
    let make : List ℕ → List ℕ → Kind → List Sample → Group = λ n h k s. record { name = n; help = h; kind = k; samples = s } in
    let same_kind : a.kind ≡ b.kind = kind_one a.kind b.kind (ap (λ words. get_or words 0 []) (sym is_a.kind ∙ is_b.kind)) in
    let in_kind : Match (IsSampleTo places b.kind) part.samples a.samples =
    subst (λ k. Match (IsSampleTo places k) part.samples a.samples)
    same_kind is_a.samples in
    ap (λ n. make n a.help a.kind a.samples) (is_a.name ∙ sym is_b.name)
    ∙ ap (λ h. make b.name h a.kind a.samples) (help_one part.helps a.help b.help is_a.help is_b.help)
    ∙ ap (λ k. make b.name b.help k a.samples) same_kind
    ∙ ap (λ s. make b.name b.help b.kind s)
    (match_one (IsSampleTo places b.kind) (sample_one places b.kind) part.samples a.samples b.samples in_kind is_b.samples)

-- a walk over bytes finds one list of groups at most
one_walked : (places : ℕ) (bytes : List ℕ) (a b : List Group) → ReadsWalked places bytes a → ReadsWalked places bytes b → a ≡ b
one_walked places bytes a b reads_a reads_b =
    let same_lines : reads_a.lines ≡ reads_b.lines = append_cancel_right reads_a.lines reads_b.lines ([] ∷ [])
    (sym reads_a.cut ∙ reads_b.cut) in
    match_one (IsGroupTo places) (group_one places) (parts_of (map entry_of reads_b.lines)) a b
    (subst (λ lines. Match (IsGroupTo places) (parts_of (map entry_of lines)) a) same_lines reads_a.parts) reads_b.parts

-- bytes are an exposition of one list of groups at most
pub one_reading : (places : ℕ) (bytes : List ℕ) (a b : List Group) → ReadsTo places bytes a → ReadsTo places bytes b → a ≡ b
one_reading places bytes a b reads_a reads_b =
    one_walked places bytes a b (walked places bytes a reads_a) (walked places bytes b reads_b)
