use Rattle.std.proofs.Common.{List, get_or, sym, ap, subst, ◌∙◌}
use Rattle.metric_desc.specs.Desc.{Descriptor}
use Rattle.expo_text.specs.Scraped.{Child, Family}
use Rattle.scrape_merge.specs.declared.frames.Frame.{Frame as Held}
use Rattle.scrape_merge.specs.Held.{name_of, IsGrown}
use Rattle.scrape_merge.proofs.Feeding.{put_one}
use Rattle.scrape_merge.proofs.putting.put_family.Goals as goal

pub returns : goal.returns
returns c =
    let old = c.index-frames-place.result in
    put_one c.args.family c.args.frames.now c.place_of-place.result old c.put_children.new.frame c.requires.ordered
    c.place_of-place.ensures.within c.index-frames-place.is
    (ap name_of c.index-frames-place.is ∙ c.place_of-place.ensures.named old ∙ c.as_str.ensures.text ∙ c.name.ensures
    ∙ ap (λ (desc : Descriptor). desc.name) c.deref.ensures ∙ ap (λ (family : Family). family.desc.name) c.family.view_is)
    (subst (λ (held : Held). IsGrown c.args.family.children held c.put_children.new.frame) (sym c.index-frames-place.is)
    (subst (λ (more : List Child).
    IsGrown more (get_or c.args.frames.now c.place_of-place.result old) c.put_children.new.frame)
    (ap (λ (family : Family). family.children) c.family.view_is) c.put_children.ensures))
