use Rattle.std.proofs.Common.{rules, ◌≡◌, ℕ, List, [], ◌∷◌, ◌++◌, sym, ap, ◌∙◌}
use lib.ListN.{get_elem?}
use Rattle.register_rule.specs.declared.view.Member.{Member}
use Rattle.register_rule.specs.declared.view.Who.TheVariants.{Reader}
use Rattle.register_rule.specs.Members.{first_of, met, picked, without}
use Rattle.register_rule.specs.Seats.{members_of}
use Rattle.snapshot_scan.proofs.Comparing.{parted, both, stays, goes, host, guest}
use Rattle.snapshot_scan.proofs.ordering.meet.Goals as goal

alone_still : (ms : List Member) (m : Member) → ms ≡ m ∷ [] → ms ≡ first_of ms ∷ []
alone_still ms m e = e ∙ sym (ap (λ (l : List Member). first_of l ∷ []) e)

pub part-guest-requires : goal.part-guest-requires
part-guest-requires g c = let other = members_of c.args.other.now in
    (search rules, (c.requires.of_board.1, (first_of other, parted c.args.who other c.requires.alone.1 c.requires.is)))

pub part-requires : goal.part-requires
part-requires g c =
    let one = members_of c.args.one.now in let other = members_of c.args.other.now in let k : ℕ = c.args.who in
    let joined = members_of c.join.new.bundle in
    let gone = goes k one other (members_of c.part-guest.result) joined c.requires.alone.0 c.requires.alone.1 c.requires.is
    c.part-guest.ensures.one c.join.ensures.all c.tell-number.ensures.ruled.0.apart in (
      search rules,
      (
        c.tell-number.ensures.table ∙ (c.join.ensures.table ∙ c.requires.of_board.0),
        (guest k (first_of one) (first_of other) c.requires.is, ap (picked (Reader k)) c.tell-number.ensures.same ∙ gone),
      ),
    )

pub returns : goal.returns
returns g c =
    let one = members_of c.args.one.now in let other = members_of c.args.other.now in let k : ℕ = c.args.who in
    let joined = members_of c.join.new.bundle in let from = c.part-guest.ensures.one in let all = c.join.ensures.all in
    let apart = c.tell-number.ensures.ruled.0.apart in let alone = c.requires.alone in let is = c.requires.is in
    let guests = members_of c.part-guest.result in
    let pair = both k one other guests joined alone.0 alone.1 is from all apart in
    let left = c.part.ensures.others ∙ (ap (without (Reader k)) c.tell-number.ensures.same
    ∙ stays k one other guests joined alone.0 alone.1 is from all apart) in
    let gone = c.part.ensures.one ∙ (ap (picked (Reader k)) c.tell-number.ensures.same
    ∙ goes k one other guests joined alone.0 alone.1 is from all apart) in
    record {
      table = search rules;
      alone = (alone_still (members_of c.part.new.bundle) _ left, alone_still (members_of c.part.result) _ gone);
      recorded = (
        ap (λ (l : List Member). (first_of l).scan.recorded) left,
        ap (λ (l : List Member). (first_of l).scan.recorded) gone,
      );
      met = (λ z. left z ++ gone z) ∙ sym (λ z. met (alone.0 z ++ alone.1 z));
      comparable = λ x y p q at at'. c.tell-number.ensures.ruled.2.recorded x y
          (host k (first_of one) (first_of other) is, (0, ap (λ (l : List Member). get_elem? l 0) pair), (p, at))
          (guest k (first_of one) (first_of other) is, (1, ap (λ (l : List Member). get_elem? l 1) pair), (q, at'));
    }
