use Rattle.std.proofs.Common.{◌≡◌, inr, ap}
use Rattle.dirgwako.proofs.Wrapping.{if_ok_from, on_err_from, met_there, some_broken, answers_there}
use Rattle.dirgwako.specs.Answering.{Answers}
use Rattle.dirgwako.proofs.serving.serve_alone.Goals as goal

pub returns-clause-replied : goal.returns-clause-replied
returns-clause-replied g c = if_ok_from c.answer_all-answered.result
    (λ answered are. met_there (λ l. l.source.source.state)
    (λ a b r. Answers (λ x y z. g.X.MakesScrapes.made x.state y.state z) g.X.MakesScrapes.again a.source.source b.source.source r)
    (Answers g.X.MakesScrapes.made g.X.MakesScrapes.again)
    (λ a b r is. answers_there (λ o. o.state) g.X.MakesScrapes.made g.X.MakesScrapes.again a.source.source b.source.source r is)
    c.args.connections
    answered.replies _ _ are)
    c.answer_all-answered.ensures.replied

pub returns-clause-broken : goal.returns-clause-broken
returns-clause-broken g c = on_err_from c.answer_all-answered.result
    (λ broken. inr (some_broken (λ l. l.source.source.state)
    (λ a b r. Answers (λ x y z. g.X.MakesScrapes.made x.state y.state z) g.X.MakesScrapes.again a.source.source b.source.source r)
    (Answers g.X.MakesScrapes.made g.X.MakesScrapes.again)
    (λ a b r is. answers_there (λ o. o.state) g.X.MakesScrapes.made g.X.MakesScrapes.again a.source.source b.source.source r is)
    (λ before after. after.source ≡ before.source) (λ before after. after ≡ before) (λ a b same. ap (λ s. s.source.state) same)
    c.args.connections _ c.answer_all-answered.new.at broken))
    c.answer_all-answered.ensures.broken
