use Rattle.std.proofs.Common.{◌≡◌, ◌↔◌, length, IsUtf8, sym, subst, ◌∙◌, arith}
use Rattle.expo_text.specs.Shown.{shown_text}
use Rattle.expo_text.specs.Groups.{groups_of}
use Rattle.expo_text.specs.Reads.{Reads}
use Rattle.expo_text.specs.ReadsTo.{ReadsTo, groups_to}
use Rattle.expo_text.proofs.Filled.{filled-all}
use Rattle.expo_text.proofs.ShiftedNumbers.{shifted_law, writes_one}
use Rattle.expo_text.proofs.ReadingLaw.{reading_law}
use Rattle.expo_text.proofs.PlainLaw.{text_plain, reads_plain, reading_law_plain}
use Rattle.expo_text.proofs.Utf8.{text_utf8}
use Rattle.expo_text.proofs.page.render.Goals as goal

-- the bytes are the text, and what holds of the text holds of them
pub returns : goal.returns
returns c =
    let scrape = c.args.scrape.now in
    let told = c.put_groups.ensures in
    let room : length (shown_text scrape) ≡ length c.in_ok-bytes.bytes.items = (let len = c.in_ok-bytes.ensures.len in
    let text = c.count.ensures.len in omega (arith, len, text)) in
    let same : c.put_groups.new.sink.bytes.items ≡ shown_text scrape =
    filled-all c.in_ok-bytes.bytes.items c.put_groups.new.sink.bytes.items c.put_groups.new.sink.filled (shown_text scrape)
    told.text room in
    record {
      text = same;
      utf8 = subst IsUtf8 (sym same) (text_utf8 scrape told.ordered told.spelled);
      reading = λ groups. subst (λ bytes. ReadsTo 9 bytes groups ↔ (groups ≡ groups_to 9 scrape)) (sym same)
          (reading_law scrape told.ordered told.spelled groups);
      plain = λ plain. same ∙ text_plain scrape plain;
      plain_reading = λ plain groups. subst (λ bytes. Reads bytes groups ↔ (groups ≡ groups_of scrape)) (sym same)
          (reading_law_plain scrape told.ordered told.spelled plain groups);
      to_no_place = reads_plain;
      one_text = shifted_law;
      one_number = λ digits m n bytes is_m is_n. writes_one digits bytes m n is_m.writes is_n.writes;
    }

-- the laws of numbers and readings hold where there is no memory, too
pub returns-in_err-bytes-clause-to_no_place : goal.returns-in_err-bytes-clause-to_no_place
returns-in_err-bytes-clause-to_no_place c = reads_plain

pub returns-in_err-bytes-clause-one_text : goal.returns-in_err-bytes-clause-one_text
returns-in_err-bytes-clause-one_text c = shifted_law

pub returns-in_err-bytes-clause-one_number : goal.returns-in_err-bytes-clause-one_number
returns-in_err-bytes-clause-one_number c = λ digits m n bytes is_m is_n. writes_one digits bytes m n is_m.writes is_n.writes
