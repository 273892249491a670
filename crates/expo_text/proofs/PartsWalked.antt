-- A walk over the lines of a text finds the groups that stand there.
use Rattle.std.proofs.Common.{◌≡◌, ◌≢◌, ℕ, zero, suc, true, if◌then◌else◌, List, [], ◌∷◌, ◌++◌, map, codes, refl, sym, ap, ap₂}
use Rattle.std.proofs.Common.{◌∙◌, subst, arith, append_assoc, append-nil}
use Rattle.std.specs.Prelude.{All, Contains, filter}
use Rattle.std.proofs.lemmas.Bool.{cond-true, cond_both}
use Rattle.std.proofs.lemmas.List.Elements.{recursion_from_All}
use Rattle.expo_text.specs.Lines.{is_same_text, Written, LineEntry, Nothing, Help, Typed, Sampled, Malformed}
use Rattle.expo_text.specs.Parts.{Part, IsEnd, BucketEnd, SumEnd, CountEnd, NoEnd, IsNamedAfter, AreHeads, NoHead, HelpHead}
use Rattle.expo_text.specs.Parts.{TypeHead, AreBlocks, NoBlock, NextBlock, is_of_group, AreParts}
use Rattle.expo_text.proofs.Walked.{ends_of, has_end, joins, joined, begun, gathered, parts_of}
use Rattle.expo_text.proofs.Tokened.{same_self, same_other}
use Rattle.expo_text.proofs.Pairs.{Each, Pairs, each_weaker}

-- a group with one type
pub record IsTyped (part : Part) : Type 0 where
  pub word : List ℕ
  pub is : part.types ≡ word ∷ []

-- a part without samples
abbrev pub open_part : (name : List ℕ) (helps types : List (List ℕ)) → Part
open_part name helps types = record { name = name; helps = helps; types = types; samples = [] }

-- comments and empty lines change nothing
gathered_filter : (part : Part) (entries : List LineEntry) → gathered part entries ≡ gathered part (filter is_of_group entries)
gathered_filter part [] = refl
gathered_filter part (Nothing ∷ entries) = gathered_filter part entries
gathered_filter part (Help name help ∷ entries) =
    ap₂ (λ more others. if joins part (Help name help) then more else (part ∷ others))
    (gathered_filter (joined part (Help name help)) entries) (gathered_filter (begun (Help name help)) entries)
gathered_filter part (Typed name word ∷ entries) =
    ap₂ (λ more others. if joins part (Typed name word) then more else (part ∷ others))
    (gathered_filter (joined part (Typed name word)) entries) (gathered_filter (begun (Typed name word)) entries)
gathered_filter part (Sampled sample ∷ entries) =
    ap₂ (λ more others. if joins part (Sampled sample) then more else (part ∷ others))
    (gathered_filter (joined part (Sampled sample)) entries) (gathered_filter (begun (Sampled sample)) entries)
gathered_filter part (Malformed ∷ entries) = gathered_filter part entries

parts_filter : (entries : List LineEntry) → parts_of entries ≡ parts_of (filter is_of_group entries)
parts_filter [] = refl
parts_filter (Nothing ∷ entries) = parts_filter entries
parts_filter (Help name help ∷ entries) = gathered_filter (begun (Help name help)) entries
parts_filter (Typed name word ∷ entries) = gathered_filter (begun (Typed name word)) entries
parts_filter (Sampled sample ∷ entries) = gathered_filter (begun (Sampled sample)) entries
parts_filter (Malformed ∷ entries) = parts_filter entries

-- helps and types of a group that is open
heads_walked : (name : List ℕ) (rest : List LineEntry) (done_helps done_types : List (List ℕ)) (entries : List LineEntry)
    (helps types : List (List ℕ)) → AreHeads name entries helps types
    → gathered (open_part name done_helps done_types) (entries ++ rest) ≡ gathered
    (open_part name (done_helps ++ helps) (done_types ++ types)) rest
heads_walked name rest done_helps done_types entries helps types NoHead =
    ap₂ (λ h t. gathered (open_part name h t) rest) (sym (append-nil done_helps)) (sym (append-nil done_types))
heads_walked name rest done_helps done_types entries helps types (HelpHead help more others types' are) =
    rw (same_self name) refl
    ∙ heads_walked name rest (done_helps ++ (help ∷ [])) done_types more others types' are
    ∙ ap (λ h. gathered (open_part name h (done_types ++ types')) rest) (append_assoc done_helps (help ∷ []) others)
heads_walked name rest done_helps done_types entries helps types (TypeHead word more helps' others are) =
    rw (same_self name) refl
    ∙ heads_walked name rest done_helps (done_types ++ (word ∷ [])) more helps' others are
    ∙ ap (λ t. gathered (open_part name (done_helps ++ helps') t) rest) (append_assoc done_types (word ∷ []) others)

-- the samples of a group that is open
pub samples_walked : (part : Part) (samples : List Written) (rest : List LineEntry)
    → Each (λ (sample : Written). has_end sample.name part.name (ends_of part.types) ≡ true) samples
    → gathered part (map Sampled samples ++ rest) ≡ gathered (record part { samples = part.samples ++ samples }) rest
samples_walked part [] rest named = ap (λ written. gathered (record part { samples = written }) rest)
    (sym (append-nil part.samples))
samples_walked part (sample ∷ samples) rest named =
    let more : Part = record part { samples = part.samples ++ (sample ∷ []) } in
    cond-true (has_end sample.name part.name (ends_of part.types)) (gathered more (map Sampled samples ++ rest))
    (part ∷ gathered (begun (Sampled sample)) (map Sampled samples ++ rest)) named.0
    ∙ samples_walked more samples rest named.1
    ∙ ap (λ written. gathered (record part { samples = written }) rest) (append_assoc part.samples (sample ∷ []) samples)

-- the name is the group's with the first of these ends
pub end_here : (name group end : List ℕ) (ends : List (List ℕ)) → name ≡ group ++ end → has_end name group (end ∷ ends) ≡ true
end_here name group end ends e = cond-true (is_same_text name (group ++ end)) true (has_end name group ends)
    (ap (λ other. is_same_text name other) (sym e) ∙ same_self name)

-- the name is the group's with a later one of these ends
pub end_later : (name group end : List ℕ) (ends : List (List ℕ)) → has_end name group ends ≡ true
    → has_end name group (end ∷ ends) ≡ true
end_later name group end ends there =
    cond_both (is_same_text name (group ++ end)) true (has_end name group ends) (λ found. found ≡ true) (λ _. refl) (λ _. there)

-- the three ends of a histogram
abbrev pub three : List (List ℕ)
three = codes "_bucket" ∷ codes "_sum" ∷ codes "_count" ∷ []

-- the only word of a list of one
only_word : (word other : List ℕ) → Contains (word ∷ []) other → other ≡ word
only_word word other (zero, within, is) = sym is
only_word word other (suc k, within, is) = absurd (omega arith)

-- an end of a type is one that the walk knows
end_walked : (name group word end : List ℕ) → IsEnd word end → name ≡ group ++ end
    → has_end name group (ends_of (word ∷ [])) ≡ true
end_walked name group word end BucketEnd is = end_here name group (codes "_bucket") (codes "_sum" ∷ codes "_count" ∷ []) is
end_walked name group word end SumEnd is =
    end_later name group (codes "_bucket") (codes "_sum" ∷ codes "_count" ∷ [])
    (end_here name group (codes "_sum") (codes "_count" ∷ []) is)
end_walked name group word end CountEnd is =
    end_later name group (codes "_bucket") (codes "_sum" ∷ codes "_count" ∷ [])
    (end_later name group (codes "_sum") (codes "_count" ∷ []) (end_here name group (codes "_count") [] is))
end_walked name group word end (NoEnd other differs) is = rw (same_other other (codes "histogram") differs)
    (end_here name group [] [] is)

-- a sample that is named after its group joins it
named_walked : (part : Part) → IsTyped part → (sample : Written) → IsNamedAfter part sample
    → has_end sample.name part.name (ends_of part.types) ≡ true
named_walked part typed sample named =
    let same_word : named.word ≡ typed.word = only_word typed.word named.word
    (subst (λ types. Contains types named.word) typed.is named.typed) in
    subst (λ types. has_end sample.name part.name (ends_of types) ≡ true) (ap (λ w. w ∷ []) same_word ∙ sym typed.is)
    (end_walked sample.name part.name named.word named.end named.ends named.is)

-- the samples of a group's block, after its helps and types
block_samples : (part : Part) (rest : List LineEntry) → IsTyped part → All (IsNamedAfter part) part.samples
    → gathered (open_part part.name part.helps part.types) (map Sampled part.samples ++ rest) ≡ gathered part rest
block_samples part rest typed named =
    samples_walked (open_part part.name part.helps part.types) part.samples rest
    (each_weaker (IsNamedAfter part) (λ (sample : Written). has_end sample.name part.name (ends_of part.types) ≡ true)
    (named_walked part typed)
    part.samples (recursion_from_All (IsNamedAfter part) part.samples named))

-- the first block of a text
first_heads : (name : List ℕ) (rest entries : List LineEntry) (helps types : List (List ℕ)) (word : List ℕ)
    → AreHeads name entries helps types → types ≡ word ∷ []
    → parts_of (entries ++ rest) ≡ gathered (open_part name helps types) rest
first_heads name rest entries helps types word NoHead typed = absurd (cc)
first_heads name rest entries helps types word (HelpHead help more others types' are) typed =
    heads_walked name rest (help ∷ []) [] more others types' are
first_heads name rest entries helps types word (TypeHead kind more helps' others are) typed = heads_walked name rest []
    (kind ∷ []) more helps' others are

-- a block after another
next_heads : (part : Part) (name : List ℕ) → name ≢ part.name → (rest entries : List LineEntry) (helps types : List (List ℕ))
    (word : List ℕ)
    → AreHeads name entries helps types → types ≡ word ∷ [] → gathered part (entries ++ rest) ≡ part ∷ gathered
    (open_part name helps types) rest
next_heads part name differs rest entries helps types word NoHead typed = absurd (cc)
next_heads part name differs rest entries helps types word (HelpHead help more others types' are) typed =
    rw (same_other name part.name differs) refl
    ∙ ap (λ parts. part ∷ parts) (heads_walked name rest (help ∷ []) [] more others types' are)
next_heads part name differs rest entries helps types word (TypeHead kind more helps' others are) typed =
    rw (same_other name part.name differs) refl
    ∙ ap (λ parts. part ∷ parts) (heads_walked name rest [] (kind ∷ []) more helps' others are)

-- two parts have different names
abbrev pub AreApart : Part → Part → Type 0
AreApart a b = a.name ≢ b.name

-- the blocks after an open part
next_blocks : (part : Part) (entries : List LineEntry) (parts : List Part) → AreBlocks entries parts → Each IsTyped parts
    → Each (AreApart part) parts → Pairs AreApart parts
    → gathered part entries ≡ part ∷ parts
next_blocks part entries parts NoBlock typed apart pairs = refl
next_blocks part entries parts (NextBlock block more next others is are) typed apart pairs =
    ap (λ all. gathered part all) (ap (λ b. b ++ more) is.is ∙ append_assoc is.heads (map Sampled next.samples) more)
    ∙ next_heads part next.name (λ e. apart.0 (sym e)) (map Sampled next.samples ++ more) is.heads next.helps next.types
    typed.0.word is.headed typed.0.is
    ∙ ap (λ all. part ∷ all) (block_samples next more typed.0 is.named ∙ next_blocks next more others are typed.1 pairs.0 pairs.1)

-- the blocks of a text
first_blocks : (entries : List LineEntry) (parts : List Part) → AreBlocks entries parts → Each IsTyped parts
    → Pairs AreApart parts → parts_of entries ≡ parts
first_blocks entries parts NoBlock typed pairs = refl
first_blocks entries parts (NextBlock block more next others is are) typed pairs =
    ap parts_of (ap (λ b. b ++ more) is.is ∙ append_assoc is.heads (map Sampled next.samples) more)
    ∙ first_heads next.name (map Sampled next.samples ++ more) is.heads next.helps next.types typed.0.word is.headed typed.0.is
    ∙ block_samples next more typed.0 is.named
    ∙ next_blocks next more others are typed.1 pairs.0 pairs.1

-- the parts of a text are those that the walk finds
pub parts_walked : (entries : List LineEntry) (parts : List Part) → AreParts entries parts → Each IsTyped parts
    → Pairs AreApart parts → parts_of entries ≡ parts
parts_walked entries parts are typed pairs = parts_filter entries
    ∙ first_blocks (filter is_of_group entries) parts are typed pairs
