-- The counters of the server's replies are made one after the other, each by its code, and then the histogram.
use Rattle.std.proofs.Common.{◌≡◌, ℕ, List, [], ◌∷◌, All, codes, decimal, length, refl, subst, ap, ◌∙◌, arith}
use Rattle.std.specs.Fmt.{digits}
use Rattle.ledger_core.specs.declared.handles.Counter.{Counter as Counting}
use Rattle.ledger_core.specs.declared.handles.Histogram.{Histogram}
use Rattle.metric_desc.specs.Desc.{Descriptor}
use Rattle.registry_state.specs.Calls.{changed, IsGiven, WasMade}
use Rattle.registry_state.specs.Journal.{Registered}
use Rattle.registry_state.specs.Kept.{RegistryView}
use Rattle.registry_state.specs.Replay.{Family, IsNew, nothing}
use Rattle.registry_state.specs.declared.handle.Handle.TheVariants as handle
use Rattle.scrape_http.specs.Status.{code_of}
use Rattle.scrape_http.specs.declared.status.Status.{Status}
use Rattle.scrape_http.specs.declared.status.Status.TheVariants.{Success, BadRequest, NotFound, MethodNotAllowed, TooLarge}
use Rattle.scrape_http.specs.declared.status.Status.TheVariants.{Unavailable}
use Rattle.metrics_program.specs.Counted.{AreSix}
use Rattle.metrics_program.specs.Families.{AreRegistered, IsChildOf, bytes_family, counter_for, replies_family}
use Rattle.metrics_program.specs.declared.metrics.Metrics.{Metrics}
use Rattle.metrics_program.proofs.ChildOf.{child_stays, given_child, last_at, stays_given, stays_made, IsSo}
use Rattle.metrics_program.proofs.Making.{HasCodes, all_apart, child_of, more_codes, new_code, next_slot, no_codes}

-- the codes' texts
abbrev text_of : Status → List ℕ
text_of Success = codes "200"
text_of BadRequest = codes "400"
text_of NotFound = codes "404"
text_of MethodNotAllowed = codes "405"
text_of TooLarge = codes "431"
text_of Unavailable = codes "503"

text_is : (status : Status) → text_of status ≡ decimal (code_of status)
unfolding digits
text_is Success = refl
text_is BadRequest = refl
text_is NotFound = refl
text_is MethodNotAllowed = refl
text_is TooLarge = refl
text_is Unavailable = refl

-- those that were made, the last one first
abbrev one : List (List ℕ)
one = codes "200" ∷ []

abbrev two : List (List ℕ)
two = codes "400" ∷ one

abbrev three : List (List ℕ)
three = codes "404" ∷ two

abbrev four : List (List ℕ)
four = codes "405" ∷ three

abbrev five : List (List ℕ)
five = codes "431" ∷ four

-- no child of a family has the code
abbrev pub IsNewCode : List ℕ → List Family → Type 0
IsNewCode code families = All (λ (it : Family). IsNew it (code ∷ [])) families

-- at first there is the family alone
pub begun : {S : Type 0} (old new : RegistryView S) (desc : Descriptor) → old.state ≡ nothing → new ≡ changed (Registered desc)
    old
    → desc ≡ replies_family → HasCodes replies_family 0 [] new
begun old new desc none is same =
    no_codes old new replies_family none (is ∙ ap (λ (d : Descriptor). changed (Registered d) old) same) refl

module _ {S : Type 0} (number : ℕ) where
  -- the counter of the child of this code was made
  abbrev pub Made : (old new : RegistryView S) (code : List ℕ) → Counting → Type 0
  Made old new code counter = WasMade 64 8 16 old new number (code ∷ []) (handle.Counter counter)

  -- it is that of this code's child
  abbrev InReplies : RegistryView S → (code : List ℕ) → Counting → Type 0
  InReplies r code counter = IsChildOf r.id r.state.families replies_family (code ∷ []) (handle.Counter counter)

  -- and still is, where another is made
  stays : (old new : RegistryView S) (code other : List ℕ) (counter it : Counting) → Made old new code counter
      → InReplies old other it → InReplies new other it
  stays old new code other counter it made is =
      stays_made 64 8 16 old new number (code ∷ []) (handle.Counter counter) replies_family (other ∷ []) (handle.Counter it) is
      made

  module _ (zeroth : number ≡ 0) (r0 r1 r2 r3 : RegistryView S) (none : HasCodes replies_family 0 [] r0) (c1 c2 c3 : Counting)
      (m1 : Made r0 r1 (codes "200") c1) (m2 : Made r1 r2 (codes "400") c2) (m3 : Made r2 r3 (codes "404") c3) where
    has1 : HasCodes replies_family 1 one r1
    has1 = more_codes replies_family 0 ([]) r0 r1 number (codes "200") c1 zeroth none m1

    has2 : HasCodes replies_family 2 two r2
    has2 = more_codes replies_family 1 one r1 r2 number (codes "400") c2 zeroth has1 m2

    has3 : HasCodes replies_family 3 three r3
    has3 = more_codes replies_family 2 two r2 r3 number (codes "404") c3 zeroth has2 m3

    pub new_405 : IsNewCode (codes "405") r3.state.families
    new_405 = new_code replies_family 3 three r3 (codes "405") has3 (all_apart 2 (codes "405") three (
      λ (e : 52 ≡ 53). absurd (omega (arith, e)),
      (λ (e : 48 ≡ 53). absurd (omega (arith, e)), (λ (e : 48 ≡ 53). absurd (omega (arith, e)), tt)),
    ))

    module _ (r4 : RegistryView S) (c4 : Counting) (m4 : Made r3 r4 (codes "405") c4) where
      has4 : HasCodes replies_family 4 four r4
      has4 = more_codes replies_family 3 three r3 r4 number (codes "405") c4 zeroth has3 m4

      pub new_431 : IsNewCode (codes "431") r4.state.families
      new_431 = new_code replies_family 4 four r4 (codes "431") has4 (all_apart 1 (codes "431") four (
        λ (e : 48 ≡ 51). absurd (omega (arith, e)),
        (
          λ (e : 48 ≡ 51). absurd (omega (arith, e)),
          (λ (e : 48 ≡ 51). absurd (omega (arith, e)), (λ (e : 48 ≡ 51). absurd (omega (arith, e)), tt)),
        ),
      ))

      module _ (r5 : RegistryView S) (c5 : Counting) (m5 : Made r4 r5 (codes "431") c5) where
        has5 : HasCodes replies_family 5 five r5
        has5 = more_codes replies_family 4 four r4 r5 number (codes "431") c5 zeroth has4 m5

        pub new_503 : IsNewCode (codes "503") r5.state.families
        new_503 = new_code replies_family 5 five r5 (codes "503") has5 (all_apart 0 (codes "503") five (
          λ (e : 52 ≡ 53). absurd (omega (arith, e)),
          (
            λ (e : 52 ≡ 53). absurd (omega (arith, e)),
            (
              λ (e : 52 ≡ 53). absurd (omega (arith, e)),
              (λ (e : 52 ≡ 53). absurd (omega (arith, e)), (λ (e : 50 ≡ 53). absurd (omega (arith, e)), tt)),
            ),
          ),
        ))

        module _ (r6 : RegistryView S) (c6 : Counting) (m6 : Made r5 r6 (codes "503") c6) (bytes : Histogram) where
          abbrev metrics : Metrics
          metrics = record {
            success = c1;
            bad_request = c2;
            not_found = c3;
            method_not_allowed = c4;
            too_large = c5;
            unavailable = c6;
            bytes = bytes;
          }

          -- the slots rise
          pub six : AreSix metrics
          six =
              let slot1 = next_slot replies_family 0 ([]) r0 r1 number (codes "200") c1 zeroth none m1 in
              let slot2 = next_slot replies_family 1 one r1 r2 number (codes "400") c2 zeroth has1 m2 in
              let slot3 = next_slot replies_family 2 two r2 r3 number (codes "404") c3 zeroth has2 m3 in
              let slot4 = next_slot replies_family 3 three r3 r4 number (codes "405") c4 zeroth has3 m4 in
              let slot5 = next_slot replies_family 4 four r4 r5 number (codes "431") c5 zeroth has4 m5 in
              let slot6 = next_slot replies_family 5 five r5 r6 number (codes "503") c6 zeroth has5 m6 in
              record {
                bad_request = omega (arith, slot1, slot2);
                not_found = omega (arith, slot2, slot3);
                method_not_allowed = omega (arith, slot3, slot4);
                too_large = omega (arith, slot4, slot5);
                unavailable = omega (arith, slot5, slot6);
                last = omega (arith, slot6);
              }

          -- each is there where the last one was made
          from2 : (code : List ℕ) (it : Counting) → InReplies r2 code it → InReplies r6 code it
          from2 code it is =
              stays r5 r6 (codes "503") code c6 it m6 (stays r4 r5 (codes "431") code c5 it m5
              (stays r3 r4 (codes "405") code c4 it m4 (stays r2 r3 (codes "404") code c3 it m3 is)))

          from4 : (code : List ℕ) (it : Counting) → InReplies r4 code it → InReplies r6 code it
          from4 code it is = stays r5 r6 (codes "503") code c6 it m6 (stays r4 r5 (codes "431") code c5 it m5 is)

          there : (status : Status) → InReplies r6 (text_of status) (counter_for metrics status)
          there Success = from2 (codes "200") c1 (stays r1 r2 (codes "400") (codes "200") c2 c1 m2
              (child_of replies_family 0 ([]) r0 r1 number (codes "200") c1 zeroth none m1))
          there BadRequest = from2 (codes "400") c2 (child_of replies_family 1 one r1 r2 number (codes "400") c2 zeroth has1 m2)
          there NotFound = from4 (codes "404") c3 (stays r3 r4 (codes "405") (codes "404") c4 c3 m4
              (child_of replies_family 2 two r2 r3 number (codes "404") c3 zeroth has2 m3))
          there MethodNotAllowed = from4 (codes "405") c4
              (child_of replies_family 3 three r3 r4 number (codes "405") c4 zeroth has3 m4)
          there TooLarge = stays r5 r6 (codes "503") (codes "431") c6 c5 m6
              (child_of replies_family 4 four r4 r5 number (codes "431") c5 zeroth has4 m5)
          there Unavailable = child_of replies_family 5 five r5 r6 number (codes "503") c6 zeroth has5 m6

          -- and where the histogram was made
          module _ (r7 : RegistryView S) (given : IsGiven 64 8 16 (changed (Registered bytes_family) r6) r7
              (length r6.state.families) [] (handle.Histogram bytes)) where
            kept : (code : List ℕ) (it : Counting) → InReplies r6 code it → InReplies r7 code it
            kept code it is =
                stays_given 64 8 16 (changed (Registered bytes_family) r6) r7 (length r6.state.families) ([])
                (handle.Histogram bytes) replies_family (code ∷ []) (handle.Counter it)
                (child_stays (Registered bytes_family) is) given

            pub registered : AreRegistered r7.id r7.state.families metrics
            registered = record {
              replies = λ status. subst (λ (code : List ℕ). InReplies r7 code (counter_for metrics status)) (text_is status)
                  (kept (text_of status) (counter_for metrics status) (there status));
              bytes = given_child 64 8 16 (changed (Registered bytes_family) r6) r7 (length r6.state.families) ([])
                  (handle.Histogram bytes) bytes_family
                  (last_at (IsSo bytes_family) r6.state.families (record { desc = bytes_family; children = [] }) refl) given;
            }
