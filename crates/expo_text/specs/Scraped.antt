-- What a scrape holds.
use Rattle.std.specs.Prelude.{ℕ, List}
use Rattle.metric_desc.specs.Desc.{Descriptor}
use Rattle.expo_text.specs.declared.number.Number.{Number}

-- a child: the values of its labels, in the order of its family's labels, and its number
pub record Child : Type 0 where
  pub values : List (List ℕ)
  pub number : Number

-- a family: what it is, and its children
pub record Family : Type 0 where
  pub desc : Descriptor
  pub children : List Child

-- how many lists of operations each worker had published, and the families at that moment
pub record Scraped : Type 0 where
  pub vector : List ℕ
  pub families : List Family
