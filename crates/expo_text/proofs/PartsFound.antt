-- The groups that a walk over the lines of a text finds stand there.
use Rattle.std.proofs.Common.{◌≡◌, ◌≢◌, ℕ, true, false, ◌&&◌, List, [], ◌∷◌, ◌++◌, map, codes, refl, sym, ap, ◌∙◌, subst, inl}
use Rattle.std.proofs.Common.{inr, arith, append_assoc, append-nil}
use Rattle.std.specs.Prelude.{All, Contains, filter, ◌↔◌}
use Rattle.std.specs.Cmp.Lexicographic.{same_text}
use Rattle.std.proofs.lemmas.Bool.{cases_Bool, both_ways, and_parts}
use Rattle.std.proofs.lemmas.List.Elements.{All-from_recursion}
use Rattle.expo_text.specs.Lines.{is_same_text, Written, LineEntry, Nothing, Help, Typed, Sampled, Malformed}
use Rattle.expo_text.specs.Parts.{Part, IsEnd, BucketEnd, SumEnd, CountEnd, NoEnd, IsNamedAfter, AreHeads, NoHead, HelpHead}
use Rattle.expo_text.specs.Parts.{TypeHead, IsBlock, AreBlocks, NoBlock, NextBlock, is_of_group, AreParts}
use Rattle.expo_text.proofs.Walked.{ends_of, has_end, is_empty, joins, begun, gathered, parts_of}
use Rattle.expo_text.proofs.Tokened.{same_self, other_text}
use Rattle.expo_text.proofs.Pairs.{Each, Pairs, each_weaker}
use Rattle.expo_text.proofs.PartsWalked.{IsTyped, AreApart, three, parts_walked}

-- an entry that the format knows
abbrev pub IsFormed : LineEntry → Type 0
IsFormed entry = entry ≢ Malformed

-- a name with one of these ends
abbrev HasEnd : (name group : List ℕ) → List (List ℕ) → Type 0
HasEnd name group ends = has_end name group ends ≡ true

-- the end that a name has
record Ends (word name group : List ℕ) : Type 0 where
  end : List ℕ
  ends : IsEnd word end
  is : name ≡ group ++ end

-- of an end that a walk finds first
end_found : (word name group end : List ℕ) (ends : List (List ℕ)) → IsEnd word end
    → (HasEnd name group ends → Ends word name group) → HasEnd name group (end ∷ ends) → Ends word name group
end_found word name group end ends is later found =
    elim (cases_Bool (is_same_text name (group ++ end))) [
      | inl here ↦ record { end = end; ends = is; is = same_text name (group ++ end) (sym here) }
      | inr other ↦ later (rw other at found)
    ]

-- no name has no end
no_end : (word name group : List ℕ) → HasEnd name group [] → Ends word name group
no_end word name group found = absurd (both_ways false refl found)

-- of a histogram's three ends
histogram_found : (name group : List ℕ) → HasEnd name group three → Ends (codes "histogram") name group
histogram_found name group found =
    end_found (codes "histogram") name group (codes "_bucket") (codes "_sum" ∷ codes "_count" ∷ []) BucketEnd
    (end_found (codes "histogram") name group (codes "_sum") (codes "_count" ∷ []) SumEnd
    (end_found (codes "histogram") name group (codes "_count") [] CountEnd (no_end (codes "histogram") name group))) found

ends_found : (word name group : List ℕ) → HasEnd name group (ends_of (word ∷ [])) → Ends word name group
ends_found word name group found =
    elim (cases_Bool (is_same_text word (codes "histogram"))) [
      | inl histogram ↦ subst (λ w. Ends w name group) (sym (same_text word (codes "histogram") (sym histogram)))
          (histogram_found name group (rw histogram at found))
      | inr other ↦ end_found word name group [] [] (NoEnd word (other_text word (codes "histogram") other))
          (no_end word name group) (rw other at found)
    ]

-- a sample that joins is named after its group
named_found : (part : Part) → IsTyped part → (sample : Written) → HasEnd sample.name part.name (ends_of part.types)
    → IsNamedAfter part sample
named_found part typed sample found =
    let ends = ends_found typed.word sample.name part.name
    (subst (λ types. HasEnd sample.name part.name (ends_of types)) typed.is found) in
    record {
      word = typed.word;
      end = ends.end;
      typed = subst (λ types. Contains types typed.word) (sym typed.is) (0, omega arith, refl);
      ends = ends.ends;
      is = ends.is;
    }

-- an open part with further helps, types and samples
abbrev grown : Part → (helps types : List (List ℕ)) → List Written → Part
grown part helps types samples = record {
  name = part.name;
  helps = part.helps ++ helps;
  types = part.types ++ types;
  samples = part.samples ++ samples;
}

-- what a walk finds after an open part: further lines of it, and the blocks of others
record Goes (part : Part) (entries : List LineEntry) : Type 0 where
  heads : List LineEntry
  helps : List (List ℕ)
  types : List (List ℕ)
  samples : List Written
  rest : List LineEntry
  others : List Part
  is : gathered part entries ≡ grown part helps types samples ∷ others
  cut : filter is_of_group entries ≡ heads ++ (map Sampled samples ++ rest)
  headed : AreHeads part.name heads helps types
  closed : is_empty part.samples ≡ false → (heads ≡ []) × (helps ≡ []) × (types ≡ [])
  named : Each (λ (sample : Written). HasEnd sample.name part.name (ends_of (part.types ++ types))) samples
  blocks : AreBlocks rest others

-- a part as it stands
grown_none : (part : Part) → grown part [] [] [] ≡ part
grown_none part =
    let make : List (List ℕ) → List (List ℕ) → List Written → Part = λ h t s. record {
      name = part.name;
      helps = h;
      types = t;
      samples = s;
    } in
    ap (λ h. make h (part.types ++ []) (part.samples ++ [])) (append-nil part.helps)
    ∙ ap (λ t. make part.helps t (part.samples ++ [])) (append-nil part.types)
    ∙ ap (λ s. make part.helps part.types s) (append-nil part.samples)

-- where no line of the part follows
goes_none : (part : Part) (entries rest : List LineEntry) (others : List Part) → gathered part entries ≡ part ∷ others
    → filter is_of_group entries ≡ rest → AreBlocks rest others → Goes part entries
goes_none part entries rest others is cut blocks = record {
  heads = [];
  helps = [];
  types = [];
  samples = [];
  rest = rest;
  others = others;
  is = is ∙ ap (λ p. p ∷ others) (sym (grown_none part));
  cut = cut;
  headed = NoHead;
  closed = λ _. (refl, refl, refl);
  named = tt;
  blocks = blocks;
}

-- a help of the part
goes_help : (part : Part) (help : List ℕ) (entries : List LineEntry) → is_empty part.samples ≡ true
    → gathered part (Help part.name help ∷ entries) ≡ gathered (record part { helps = part.helps ++ (help ∷ []) }) entries
    → Goes (record part { helps = part.helps ++ (help ∷ []) }) entries → Goes part (Help part.name help ∷ entries)
goes_help part help entries empty is goes = record {
  heads = Help part.name help ∷ goes.heads;
  helps = help ∷ goes.helps;
  types = goes.types;
  samples = goes.samples;
  rest = goes.rest;
  others = goes.others;
  is = is ∙ goes.is ∙ ap (λ h. (record {
    name = part.name;
    helps = h;
    types = part.types ++ goes.types;
    samples = part.samples ++ goes.samples;
  }) ∷ goes.others) (append_assoc part.helps (help ∷ []) goes.helps);
  cut = ap (λ es. Help part.name help ∷ es) goes.cut;
  headed = HelpHead help goes.heads goes.helps goes.types goes.headed;
  closed = λ full. absurd (both_ways (is_empty part.samples) full empty);
  named = goes.named;
  blocks = goes.blocks;
}

-- a type of the part
goes_type : (part : Part) (word : List ℕ) (entries : List LineEntry) → is_empty part.samples ≡ true
    → gathered part (Typed part.name word ∷ entries) ≡ gathered (record part { types = part.types ++ (word ∷ []) }) entries
    → Goes (record part { types = part.types ++ (word ∷ []) }) entries → Goes part (Typed part.name word ∷ entries)
goes_type part word entries empty is goes =
    let all : (part.types ++ (word ∷ [])) ++ goes.types ≡ part.types ++ (word ∷ goes.types) =
    append_assoc part.types (word ∷ []) goes.types in
    record {
      heads = Typed part.name word ∷ goes.heads;
      helps = goes.helps;
      types = word ∷ goes.types;
      samples = goes.samples;
      rest = goes.rest;
      others = goes.others;
      is = is ∙ goes.is ∙ ap (λ t. (record {
        name = part.name;
        helps = part.helps ++ goes.helps;
        types = t;
        samples = part.samples ++ goes.samples;
      }) ∷ goes.others) all;
      cut = ap (λ es. Typed part.name word ∷ es) goes.cut;
      headed = TypeHead word goes.heads goes.helps goes.types goes.headed;
      closed = λ full. absurd (both_ways (is_empty part.samples) full empty);
      named = subst (λ types. Each (λ (sample : Written). HasEnd sample.name part.name (ends_of types)) goes.samples) all
          goes.named;
      blocks = goes.blocks;
    }

-- one more sample is there
full_after : (samples : List Written) (sample : Written) → is_empty (samples ++ (sample ∷ [])) ≡ false
full_after [] sample = refl
full_after (_ ∷ _) sample = refl

-- a sample of the part
goes_sample : (part : Part) (sample : Written) (entries : List LineEntry) → HasEnd sample.name part.name (ends_of part.types)
    → gathered part (Sampled sample ∷ entries) ≡ gathered (record part { samples = part.samples ++ (sample ∷ []) }) entries
    → Goes (record part { samples = part.samples ++ (sample ∷ []) }) entries → Goes part (Sampled sample ∷ entries)
goes_sample part sample entries ends is goes =
    let none = goes.closed (full_after part.samples sample) in
    let same_types : part.types ++ goes.types ≡ part.types = ap (λ t. part.types ++ t) none.2 ∙ append-nil part.types in
    record {
      heads = goes.heads;
      helps = goes.helps;
      types = goes.types;
      samples = sample ∷ goes.samples;
      rest = goes.rest;
      others = goes.others;
      is = is ∙ goes.is ∙ ap (λ s. (record {
        name = part.name;
        helps = part.helps ++ goes.helps;
        types = part.types ++ goes.types;
        samples = s;
      }) ∷ goes.others) (append_assoc part.samples (sample ∷ []) goes.samples);
      cut = ap (λ es. Sampled sample ∷ es) (goes.cut ∙ ap (λ h. h ++ (map Sampled goes.samples ++ goes.rest)) none.0)
          ∙ ap (λ h. h ++ (Sampled sample ∷ (map Sampled goes.samples ++ goes.rest))) (sym none.0);
      headed = goes.headed;
      closed = λ _. none;
      named = (subst (λ types. HasEnd sample.name part.name (ends_of types)) (sym same_types) ends, goes.named);
      blocks = goes.blocks;
    }

-- the block of a part that a walk began, and those after it
block_found : (part : Part) (entries all : List LineEntry) (goes : Goes part entries) → Each IsTyped (gathered part entries)
    → (heads : List LineEntry) → filter is_of_group all ≡ heads ++ (map Sampled goes.samples ++ goes.rest) → part.samples ≡ []
    → AreHeads part.name heads (part.helps ++ goes.helps) (part.types ++ goes.types)
    → AreBlocks (filter is_of_group all) (gathered part entries)
block_found part entries all goes typed heads cut none headed =
    let part' : Part = grown part goes.helps goes.types goes.samples in
    let typed' : Each IsTyped (part' ∷ goes.others) = subst (Each IsTyped) goes.is typed in
    let same_samples : part.samples ++ goes.samples ≡ goes.samples = ap (λ s. s ++ goes.samples) none in
    let block : IsBlock (heads ++ map Sampled goes.samples) part' = record {
      heads = heads;
      is = ap (λ s. heads ++ map Sampled s) (sym same_samples);
      headed = headed;
      named = subst (All (IsNamedAfter part')) (sym same_samples)
          (All-from_recursion (IsNamedAfter part') goes.samples
          (each_weaker (λ (sample : Written). HasEnd sample.name part.name (ends_of (part.types ++ goes.types)))
          (IsNamedAfter part')
          (named_found part' typed'.0) goes.samples goes.named));
    } in
    subst (λ parts. AreBlocks (filter is_of_group all) parts) (sym goes.is)
    (subst (λ es. AreBlocks es (part' ∷ goes.others)) (append_assoc heads (map Sampled goes.samples) goes.rest ∙ sym cut)
    (NextBlock (heads ++ map Sampled goes.samples) goes.rest part' goes.others block goes.blocks))

-- the blocks from one that begins with a help on
begun_help : (name help : List ℕ) (entries : List LineEntry) → Goes (begun (Help name help)) entries
    → Each IsTyped (gathered (begun (Help name help)) entries)
    → AreBlocks (filter is_of_group (Help name help ∷ entries)) (gathered (begun (Help name help)) entries)
begun_help name help entries goes typed =
    block_found (begun (Help name help)) entries (Help name help ∷ entries) goes typed (Help name help ∷ goes.heads)
    (ap (λ es. Help name help ∷ es) goes.cut) refl (HelpHead help goes.heads goes.helps goes.types goes.headed)

-- from one that begins with a type on
begun_type : (name word : List ℕ) (entries : List LineEntry) → Goes (begun (Typed name word)) entries
    → Each IsTyped (gathered (begun (Typed name word)) entries)
    → AreBlocks (filter is_of_group (Typed name word ∷ entries)) (gathered (begun (Typed name word)) entries)
begun_type name word entries goes typed =
    block_found (begun (Typed name word)) entries (Typed name word ∷ entries) goes typed (Typed name word ∷ goes.heads)
    (ap (λ es. Typed name word ∷ es) goes.cut) refl (TypeHead word goes.heads goes.helps goes.types goes.headed)

-- a list of one word is not empty
some_word : (types : List (List ℕ)) (word : List ℕ) → types ≡ [] → types ≡ word ∷ [] → ⊥
some_word types word none one = cc

-- none begins with a sample: it would have no type
begun_sample : (sample : Written) (entries : List LineEntry) → Goes (begun (Sampled sample)) entries
    → Each IsTyped (gathered (begun (Sampled sample)) entries) → ⊥
begun_sample sample entries goes typed =
    let all : Each IsTyped (grown (begun (Sampled sample)) goes.helps goes.types goes.samples ∷ goes.others) =
    subst (Each IsTyped) goes.is typed in
    let none = goes.closed refl in
    some_word goes.types all.0.word none.2 all.0.is

-- an entry of no group changes nothing
goes_nothing : (part : Part) (entries : List LineEntry) → Goes part entries → Goes part (Nothing ∷ entries)
goes_nothing part entries goes = record {
  heads = goes.heads;
  helps = goes.helps;
  types = goes.types;
  samples = goes.samples;
  rest = goes.rest;
  others = goes.others;
  is = goes.is;
  cut = goes.cut;
  headed = goes.headed;
  closed = goes.closed;
  named = goes.named;
  blocks = goes.blocks;
}

-- what a walk finds after an open part
gathered_found : (entries : List LineEntry) (part : Part) → Each IsFormed entries → Each IsTyped (gathered part entries)
    → Goes part entries
gathered_found [] part formed typed = goes_none part [] [] [] refl refl NoBlock
gathered_found (Nothing ∷ entries) part formed typed = goes_nothing part entries (gathered_found entries part formed.1 typed)
gathered_found (Help name help ∷ entries) part formed typed =
    elim (cases_Bool (is_same_text name part.name && is_empty part.samples)) [
      | inl joins ↦
          let both = and_parts (is_same_text name part.name) (is_empty part.samples) joins in
          let more = gathered_found entries (record part { helps = part.helps ++ (help ∷ []) }) formed.1 (rw joins at typed) in
          subst (λ n. Goes part (Help n help ∷ entries)) (sym (same_text name part.name (sym both.0)))
          (goes_help part help entries both.1 (rw (same_self part.name, both.1) refl) more)
      | inr begins ↦
          let others : Each IsTyped (part ∷ gathered (begun (Help name help)) entries) = rw begins at typed in
          goes_none part (Help name help ∷ entries) (filter is_of_group (Help name help ∷ entries))
          (gathered (begun (Help name help)) entries) (rw begins refl) refl
          (begun_help name help entries (gathered_found entries (begun (Help name help)) formed.1 others.1) others.1)
    ]
gathered_found (Typed name word ∷ entries) part formed typed =
    elim (cases_Bool (is_same_text name part.name && is_empty part.samples)) [
      | inl joins ↦
          let both = and_parts (is_same_text name part.name) (is_empty part.samples) joins in
          let more = gathered_found entries (record part { types = part.types ++ (word ∷ []) }) formed.1 (rw joins at typed) in
          subst (λ n. Goes part (Typed n word ∷ entries)) (sym (same_text name part.name (sym both.0)))
          (goes_type part word entries both.1 (rw (same_self part.name, both.1) refl) more)
      | inr begins ↦
          let others : Each IsTyped (part ∷ gathered (begun (Typed name word)) entries) = rw begins at typed in
          goes_none part (Typed name word ∷ entries) (filter is_of_group (Typed name word ∷ entries))
          (gathered (begun (Typed name word)) entries) (rw begins refl) refl
          (begun_type name word entries (gathered_found entries (begun (Typed name word)) formed.1 others.1) others.1)
    ]
gathered_found (Sampled sample ∷ entries) part formed typed =
    elim (cases_Bool (has_end sample.name part.name (ends_of part.types))) [
      | inl joins ↦
          goes_sample part sample entries joins (rw joins refl)
          (gathered_found entries (record part { samples = part.samples ++ (sample ∷ []) }) formed.1 (rw joins at typed))
      | inr begins ↦
          let others : Each IsTyped (part ∷ gathered (begun (Sampled sample)) entries) = rw begins at typed in
          absurd (begun_sample sample entries (gathered_found entries (begun (Sampled sample)) formed.1 others.1) others.1)
    ]
gathered_found (Malformed ∷ entries) part formed typed = absurd (formed.0 refl)

-- the parts that a walk finds
pub parts_found : (entries : List LineEntry) → Each IsFormed entries → Each IsTyped (parts_of entries)
    → AreParts entries (parts_of entries)
parts_found [] formed typed = NoBlock
parts_found (Nothing ∷ entries) formed typed = parts_found entries formed.1 typed
parts_found (Help name help ∷ entries) formed typed = begun_help name help entries
    (gathered_found entries (begun (Help name help)) formed.1 typed) typed
parts_found (Typed name word ∷ entries) formed typed = begun_type name word entries
    (gathered_found entries (begun (Typed name word)) formed.1 typed) typed
parts_found (Sampled sample ∷ entries) formed typed =
    absurd (begun_sample sample entries (gathered_found entries (begun (Sampled sample)) formed.1 typed) typed)
parts_found (Malformed ∷ entries) formed typed = absurd (formed.0 refl)

-- where each part has one type and their names differ, the parts of a text are exactly those that a walk finds
pub parts_are : (entries : List LineEntry) (parts : List Part) → Each IsFormed entries → Each IsTyped parts → Pairs AreApart parts
    → AreParts entries parts ↔ (parts_of entries ≡ parts)
parts_are entries parts formed typed apart = (
  λ are. parts_walked entries parts are typed apart,
  λ e. subst (AreParts entries) e (parts_found entries formed (subst (Each IsTyped) (sym e) typed)),
)
