use Rattle.std.proofs.Common.{ℕ, refl, ap, subst, ◌∙◌}
use Rattle.std.specs.Prelude.{Ok}
use Rattle.scrape_http.specs.declared.source.NoScrape.TheVariants.{NoMemory, Contended}
use Rattle.scrape_page.specs.Families.{PageView}
use Rattle.snapshot_scan.specs.Snapshots.{as_answer}
use Rattle.dirgwako_c.specs.Numbers.{OneScanner, numbers_of}
use Rattle.dirgwako_c.specs.Registries.{IsHandedOver, owner_in}
use Rattle.dirgwako_c.proofs.Alone.{AsksAlone, board_there, read_made, none_read}
use Rattle.dirgwako_c.proofs.readings.read_to.Goals as goal

pub returns-in-Ok : goal.returns-in-Ok
returns-in-Ok g c =
    let before = c.args.registry.now in let number : ℕ = c.args.number in let had = c.args.buffer.now in
    let had_len : ℕ = c.args.len.now in let board = c.index-boards-number.result in
    let at = record before.registrar.at { crew = c.keep_board.new.self } in
    let done = record before { registrar = record before.registrar { at = at }; numbers = c.newest.new.out } in
    let scrape = c.in-Ok.ensures.scraped.1.0 in
    let did : AsksAlone (owner_in before) c.keep_board.new.self number (Ok scrape) =
    (c.in-Ok.ensures.scraped.0, c.in-Ok.ensures.scraped.1.1, c.in-Ok.ensures.scraped.2) in
    let there = board_there before done number scrape did c.boards-in-Ok.result.now board
    (c.boards-in-Ok.ensures.boards ∙ ap (λ (p : PageView (OneScanner g.row.N g.row.C g.row.H g.row.G)). p.boards)
    c.page-in-Ok.ensures)
    c.index-boards-number.is in
    read_made before done number c.hand_over_numbers.result had c.hand_over_numbers.new.buffer had_len c.hand_over_numbers.new.len
    (refl, refl)
    c.in-Ok.ensures.untold scrape did board (as_answer c.newest.new.out) there c.newest.ensures
    (subst (λ (n : ℕ). IsHandedOver (numbers_of n (as_answer c.newest.new.out)) c.hand_over_numbers.result had
    c.hand_over_numbers.new.buffer c.hand_over_numbers.new.len) c.id.ensures c.hand_over_numbers.ensures)

pub returns-in-Err-NoMemory : goal.returns-in-Err-NoMemory
returns-in-Err-NoMemory g c =
    none_read c.args.registry.now c.keep_board.new.self c.args.number NoMemory _ 6 c.args.buffer.now c.args.len.now
    c.in-Err-NoMemory.ensures.untold c.in-Err-NoMemory.field-0-is c.in-Err-NoMemory.ensures.scraped refl

pub returns-in-Err-Contended : goal.returns-in-Err-Contended
returns-in-Err-Contended g c =
    none_read c.args.registry.now c.keep_board.new.self c.args.number Contended _ 14 c.args.buffer.now c.args.len.now
    c.in-Err-Contended.ensures.untold c.in-Err-Contended.field-0-is c.in-Err-Contended.ensures.scraped refl
