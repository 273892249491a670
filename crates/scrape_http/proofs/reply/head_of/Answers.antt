use Rattle.std.proofs.Common.{◌≡◌, ◌+◌, ◌≤◌, ℕ, length, length-append, arith, List, [], ◌++◌, codes, decimal, ap, ◌∙◌}
use Rattle.scrape_http.specs.declared.status.Status.{Status}
use Rattle.scrape_http.specs.declared.status.Status.TheVariants.{Success, BadRequest, NotFound, MethodNotAllowed, TooLarge}
use Rattle.scrape_http.specs.declared.status.Status.TheVariants.{Unavailable}
use Rattle.scrape_http.specs.Reply.{line, status_line, allow_line, type_of}
use Rattle.scrape_http.proofs.reply.head_of.Goals as goal

joined : (a b c d e f g s w w' t t' l l' k z : List ℕ) → a ≡ [] → b ≡ a ++ s → c ≡ b ++ w' → w' ≡ w → d ≡ c ++ t' → t' ≡ t
    → e ≡ d ++ l' → l' ≡ l
    → f ≡ e ++ k → g ≡ f ++ z → g ≡ s ++ w ++ t ++ l ++ k ++ z
joined a b c d e f g s w w' t t' l l' k z none one two two_is three three_is four four_is five six =
    rw (six, five, four, four_is, three, three_is, two, two_is, one, none)

pub returns-clause-head : goal.returns-clause-head
returns-clause-head c =
    joined _ _ _ _ _ _ _ (status_line c.args.status) (allow_line c.args.status) _
    (line (codes "Content-Type: " ++ type_of c.args.status)) _
    (line (codes "Content-Length: " ++ decimal c.args.len)) _ (line (codes "Connection: close")) (codes "\r\n")
    c.new-head.ensures c.put_status.ensures.line c.put.ensures (c.as_bytes.ensures.value ∙ c.allow_line.ensures)
    c.put_line.ensures (ap (λ t. line (codes "Content-Type: " ++ t)) (c.as_bytes-2.ensures.value ∙ c.type_of.ensures))
    c.put_line-2.ensures (ap (λ t. line (codes "Content-Length: " ++ t)) (c.as_bytes-3.ensures.value ∙ c.format.ensures.text))
    c.put_line-3.ensures c.put-2.ensures

-- how long the short texts are
long_allow : (s : Status) → length (allow_line s) ≤ 18
long_allow Success = omega arith
long_allow BadRequest = omega arith
long_allow NotFound = omega arith
long_allow MethodNotAllowed = omega arith
long_allow TooLarge = omega arith
long_allow Unavailable = omega arith

long_type : (s : Status) → length (type_of s) ≤ 40
long_type Success = omega arith
long_type BadRequest = omega arith
long_type NotFound = omega arith
long_type MethodNotAllowed = omega arith
long_type TooLarge = omega arith
long_type Unavailable = omega arith

-- how long a text is with a line more
line_more : (old name value new : List ℕ) → new ≡ old ++ line (name ++ value)
    → length new ≡ length old + (length name + length value + 2)
line_more old name value new is =
    let one = length-append old (line (name ++ value)) in
    let two = length-append (name ++ value) (codes "\r\n") in
    let three = length-append name value in
    let four = ap length is in
    omega (arith, one, two, three, four)

-- how long it is up to the line of the type
up_to_allow : (a b w c : List ℕ) (s : Status) → a ≡ [] → length b ≤ length a + 64 → w ≡ allow_line s → c ≡ b ++ w → length c ≤ 82
up_to_allow a b w c s none short is more =
    let one = ap length none in
    let two = ap length is in
    let long = long_allow s in
    let three = ap length more ∙ length-append b w in
    omega (arith, one, two, long, three, short)

up_to_type : (c t d : List ℕ) (s : Status) → length c ≤ 82 → t ≡ type_of s → d ≡ c ++ line (codes "Content-Type: " ++ t)
    → length d ≤ 138
up_to_type c t d s short is more =
    let one = ap length is in
    let long = long_type s in
    let two = line_more c (codes "Content-Type: ") t d more in
    omega (arith, one, long, two, short)

pub put-requires : goal.put-requires
put-requires c =
    let new = ap length c.new-head.ensures in
    let line = c.put_status.ensures.short in
    let allow = ap length (c.as_bytes.ensures.value ∙ c.allow_line.ensures) in
    let long = long_allow c.args.status in
    omega (arith, new, line, allow, long)

pub put_line-requires : goal.put_line-requires
put_line-requires c =
    let s = c.args.status in
    let so_far = up_to_allow _ _ _ _ s c.new-head.ensures c.put_status.ensures.short (c.as_bytes.ensures.value ∙
    c.allow_line.ensures)
    c.put.ensures in
    let type = ap length (c.as_bytes-2.ensures.value ∙ c.type_of.ensures) in
    let long = long_type s in
    omega (arith, so_far, type, long)

pub put_line-requires-2 : goal.put_line-requires-2
put_line-requires-2 c =
    let s = c.args.status in
    let so_far = up_to_type _ _ _ s (up_to_allow _ _ _ _ s c.new-head.ensures c.put_status.ensures.short
    (c.as_bytes.ensures.value ∙ c.allow_line.ensures) c.put.ensures) (c.as_bytes-2.ensures.value ∙ c.type_of.ensures)
    c.put_line.ensures in
    let number = c.as_bytes-3.ensures.len in
    let short = c.format.ensures.short in
    omega (arith, so_far, number, short)

pub put_line-requires-3 : goal.put_line-requires-3
put_line-requires-3 c =
    let s = c.args.status in
    let so_far = up_to_type _ _ _ s (up_to_allow _ _ _ _ s c.new-head.ensures c.put_status.ensures.short
    (c.as_bytes.ensures.value ∙ c.allow_line.ensures) c.put.ensures) (c.as_bytes-2.ensures.value ∙ c.type_of.ensures)
    c.put_line.ensures in
    let number = c.as_bytes-3.ensures.len in
    let short = c.format.ensures.short in
    let more = line_more c.put_line.new.self (codes "Content-Length: ") c.as_bytes-3.result.now c.put_line-2.new.self
    c.put_line-2.ensures in
    omega (arith, so_far, number, short, more)

up_to_close : (d n e f : List ℕ) → length d ≤ 138 → length n ≤ 20 → e ≡ d ++ line (codes "Content-Length: " ++ n)
    → f ≡ e ++ line (codes "Connection: close") → length f ≤ 195
up_to_close d n e f short number more close =
    let one = line_more d (codes "Content-Length: ") n e more in
    let two = line_more e (codes "Connection: ") (codes "close") f close in
    omega (arith, one, two, short, number)

pub put-requires-2 : goal.put-requires-2
put-requires-2 c =
    let s = c.args.status in
    let so_far = up_to_type _ _ _ s (up_to_allow _ _ _ _ s c.new-head.ensures c.put_status.ensures.short
    (c.as_bytes.ensures.value ∙ c.allow_line.ensures) c.put.ensures) (c.as_bytes-2.ensures.value ∙ c.type_of.ensures)
    c.put_line.ensures in
    let number = c.as_bytes-3.ensures.len in
    let short = c.format.ensures.fits in
    let all = up_to_close _ c.as_bytes-3.result.now _ c.put_line-3.new.self so_far (omega (arith, number, short))
    c.put_line-2.ensures c.put_line-3.ensures in
    omega (arith, all)

pub returns-clause-short : goal.returns-clause-short
returns-clause-short c =
    let s = c.args.status in
    let so_far = up_to_type _ _ _ s (up_to_allow _ _ _ _ s c.new-head.ensures c.put_status.ensures.short
    (c.as_bytes.ensures.value ∙ c.allow_line.ensures) c.put.ensures) (c.as_bytes-2.ensures.value ∙ c.type_of.ensures)
    c.put_line.ensures in
    let number = c.as_bytes-3.ensures.len in
    let short = c.format.ensures.fits in
    let all = up_to_close _ c.as_bytes-3.result.now _ c.put_line-3.new.self so_far (omega (arith, number, short))
    c.put_line-2.ensures c.put_line-3.ensures in
    let last = ap length c.put-2.ensures ∙ length-append c.put_line-3.new.self (codes "\r\n") in
    omega (arith, all, last)
