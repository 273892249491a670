-- The statuses of replies (RFC 9110, section 15; 431 is of RFC 6585, section 5).
use Rattle.std.specs.Prelude.{ℕ, List, codes}
use Rattle.scrape_http.specs.declared.status.Status.{Status}
use Rattle.scrape_http.specs.declared.status.Status.TheVariants.{Success, BadRequest, NotFound, MethodNotAllowed, TooLarge}
use Rattle.scrape_http.specs.declared.status.Status.TheVariants.{Unavailable}

-- the code
abbrev pub code_of : Status → ℕ
code_of Success = 200
code_of BadRequest = 400
code_of NotFound = 404
code_of MethodNotAllowed = 405
code_of TooLarge = 431
code_of Unavailable = 503

-- the phrase that stands behind it
abbrev pub phrase_of : Status → List ℕ
phrase_of Success = codes "OK"
phrase_of BadRequest = codes "Bad Request"
phrase_of NotFound = codes "Not Found"
phrase_of MethodNotAllowed = codes "Method Not Allowed"
phrase_of TooLarge = codes "Request Header Fields Too Large"
phrase_of Unavailable = codes "Service Unavailable"
