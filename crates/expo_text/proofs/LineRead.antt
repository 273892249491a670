-- How a scraper reads each line that a scrape prints.
use Rattle.std.proofs.Common.{◌≡◌, ℕ, true, false, not, ◌==◌, if◌then◌else◌, List, [], ◌∷◌, ◌++◌, map, codes, refl, sym, ap, ap₂}
use Rattle.std.proofs.Common.{◌∙◌, append-nil, append_assoc}
use Rattle.std.specs.List.{join_by}
use Rattle.std.proofs.lemmas.Bool.{not_from_false, and_from}
use Rattle.metric_names.specs.HelpText.{is_blank}
use Rattle.expo_text.specs.Text.{label_text, labels_text}
use Rattle.expo_text.specs.Lines.{is_same_text, Help, Typed, Sampled, Malformed}
use Rattle.expo_text.proofs.Walked.{skip, in_token, first, after, value_entry, in_name, after_name, type_entry, entry_from}
use Rattle.expo_text.proofs.Walked.{entry_of}
use Rattle.expo_text.proofs.Entries.{written_label}
use Rattle.expo_text.proofs.Tokens.{Each, Stops, each_weaker, take_while_all, drop_while_all, other_byte}
use Rattle.expo_text.proofs.LabelsRead.{is_name_byte, name_no_blank, IsNamed, AreNamed, labels_read}
use Rattle.expo_text.proofs.Names.{is_value_byte, IsToken}

-- a text without a blank in front stays as it is
skip_none : (text : List ℕ) → Stops is_blank text → skip text ≡ text
skip_none text h = drop_while_all is_blank [] text tt h

-- one blank in front goes
skip_one : (text : List ℕ) → Stops is_blank text → skip (32 ∷ text) ≡ text
skip_one text h = drop_while_all is_blank (32 ∷ []) text (refl, tt) h

-- the token before a blank
first_token : (token text : List ℕ) → Each in_token token → first (token ++ (32 ∷ text)) ≡ token
first_token token text h = take_while_all in_token token (32 ∷ text) h refl

-- what stands after a token and a blank
after_token : (token text : List ℕ) → Each in_token token → Stops is_blank text → after (token ++ (32 ∷ text)) ≡ text
after_token token text h k = ap skip (drop_while_all in_token token (32 ∷ text) h refl) ∙ skip_one text k

-- a token that is all of a text
only_token : (token : List ℕ) → Each in_token token → first token ≡ token
only_token token h = ap first (sym (append-nil token)) ∙ take_while_all in_token token [] h tt

-- nothing stands after it
after_only : (token : List ℕ) → Each in_token token → after token ≡ []
after_only token h = ap after (sym (append-nil token)) ∙ ap skip (drop_while_all in_token token [] h tt)

-- a name is a token, and has no brace
named_token : (name : List ℕ) → IsNamed name → Each in_token name
named_token [] h = absurd h
named_token (c ∷ cs) h = each_weaker is_name_byte in_token (λ b k. not_from_false (is_blank b) (name_no_blank b k)) (c ∷ cs) h

-- a name ends neither at a blank nor at a brace of its own
named_in_name : (name : List ℕ) → IsNamed name → Each in_name name
named_in_name [] h = absurd h
named_in_name (c ∷ cs) h =
    each_weaker is_name_byte in_name (λ b k.
    and_from (in_token b) (not (b == 123)) (not_from_false (is_blank b) (name_no_blank b k))
    (not_from_false (b == 123) (other_byte is_name_byte b 123 refl k))) (c ∷ cs) h

-- a name does not begin with a blank
named_stops : (name text : List ℕ) → IsNamed name → Stops is_blank (name ++ text)
named_stops [] text h = absurd h
named_stops (c ∷ cs) text h = name_no_blank c h.0

-- nor does a value
value_no_blank : (b : ℕ) → is_value_byte b ≡ true → is_blank b ≡ false
value_no_blank b h = rw (other_byte is_value_byte b 32 refl h, other_byte is_value_byte b 9 refl h) refl

-- so no token of a value begins with one
token_stops : (token : List ℕ) → IsToken token → Stops is_blank token
token_stops [] h = absurd h
token_stops (c ∷ cs) h = value_no_blank c h.0

-- a value is one token
token_each : (token : List ℕ) → IsToken token → Each in_token token
token_each [] h = absurd h
token_each (c ∷ cs) h = each_weaker is_value_byte in_token (λ b k. not_from_false (is_blank b) (value_no_blank b k)) (c ∷ cs) h

-- a help line
pub help_read : (name help : List ℕ) → IsNamed name → Stops is_blank help
    → entry_of (codes "# HELP " ++ (name ++ (32 ∷ help))) ≡ Help name help
help_read name help named stops =
    ap (λ text. Help (first text) (after text)) (skip_one (name ++ (32 ∷ help)) (named_stops name (32 ∷ help) named))
    ∙ ap₂ Help (first_token name help (named_token name named)) (after_token name help (named_token name named) stops)

-- two tokens after the word of a type
type_tokens : (name word : List ℕ) → Each in_token name → Each in_token word → Stops is_blank word
    → type_entry (name ++ (32 ∷ word)) ≡ Typed name word
type_tokens name word h k stops =
    let all = name ++ (32 ∷ word) in
    ap (λ rest. if is_same_text (after rest) [] then Typed (first all) (first rest) else Malformed)
    (after_token name word h stops)
    ∙ ap (λ end. if is_same_text end [] then Typed (first all) (first word) else Malformed) (after_only word k)
    ∙ ap₂ Typed (first_token name word h) (only_token word k)

-- a type line
pub type_read : (name word : List ℕ) → IsNamed name → Each in_token word → Stops is_blank word
    → entry_of (codes "# TYPE " ++ (name ++ (32 ∷ word))) ≡ Typed name word
type_read name word named k stops =
    ap type_entry (skip_one (name ++ (32 ∷ word)) (named_stops name (32 ∷ word) named))
    ∙ type_tokens name word (named_token name named) k stops

-- the value of a sample
value_read : (name token : List ℕ) (labels : List (List ℕ × List ℕ)) → Each in_token token
    → value_entry name labels token ≡ Sampled (record { name = name; labels = labels; value = token })
value_read name token labels h =
    ap (λ end. if is_same_text end [] then Sampled (record { name = name; labels = labels; value = first token }) else Malformed)
    (after_only token h)
    ∙ ap (λ value. Sampled (record { name = name; labels = labels; value = value })) (only_token token h)

-- a line that begins with a name is that of a sample
sample_from : (name text : List ℕ) → IsNamed name → Stops in_name text → entry_of (name ++ text) ≡ after_name name (skip text)
sample_from [] text named stops = absurd named
sample_from (c ∷ cs) text named stops =
    ap entry_from (skip_none ((c ∷ cs) ++ text) (name_no_blank c named.0))
    ∙ rw (other_byte is_name_byte c 35 refl named.0)
    (ap₂ (λ name rest. after_name name (skip rest))
    (take_while_all in_name (c ∷ cs) text (named_in_name (c ∷ cs) named) stops)
    (drop_while_all in_name (c ∷ cs) text (named_in_name (c ∷ cs) named) stops))

-- a value that stands right after the name's blank
bare_value : (name token : List ℕ) → IsToken token
    → after_name name token ≡ Sampled (record { name = name; labels = []; value = token })
bare_value name [] h = absurd h
bare_value name (c ∷ cs) h =
    rw (other_byte is_value_byte c 123 refl h.0) (value_read name (c ∷ cs) [] (token_each (c ∷ cs) h))

-- the line of a sample
pub sample_read : (name token : List ℕ) (labels : List (List ℕ × List ℕ)) → IsNamed name → AreNamed labels → IsToken token
    → entry_of (name ++ (labels_text labels ++ (32 ∷ token)))
    ≡ Sampled (record { name = name; labels = map written_label labels; value = token })
sample_read name token [] named labels_named h =
    sample_from name (32 ∷ token) named refl
    ∙ ap (λ text. after_name name text) (skip_one token (token_stops token h))
    ∙ bare_value name token h
sample_read name token (label ∷ labels) named labels_named h =
    let inside = join_by label_text (codes ",") (label ∷ labels) in
    let after_brace = inside ++ (125 ∷ 32 ∷ token) in
    ap (λ text. entry_of (name ++ (123 ∷ text))) (append_assoc inside (125 ∷ []) (32 ∷ token))
    ∙ sample_from name (123 ∷ after_brace) named refl
    ∙ ap (λ text. after_name name text) (skip_none (123 ∷ after_brace) refl)
    ∙ labels_read name (32 ∷ token) label labels labels_named
    ∙ ap (λ text. value_entry name (map written_label (label ∷ labels)) text) (skip_one token (token_stops token h))
    ∙ value_read name token (map written_label (label ∷ labels)) (token_each token h)
