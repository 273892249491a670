-- What the calls of C by a registry's handle come to.
use Rattle.std.specs.Prelude.{Bool, true, false, ◌≡◌, ◌≢◌, ◌⊎◌, ℕ, ◌+◌, ◌*◌, ◌<◌, ◌≤◌, List, [], ◌∷◌, ◌++◌, map, length}
use Rattle.std.specs.Prelude.{drop, All, Option, Some, None, Result, Ok, Err, IfOk, OnErr, IsSomeAnd, IsUtf8, Box}
use Rattle.std.specs.Borrow.{Bor}
use Rattle.std.specs.declared.alloc.Global.{Global}
use Rattle.dirgwako.specs.Paged.{RegistersOnPage, GivesOnPage}
use Rattle.dirgwako.specs.Printing.{IsText, IsTextFault, text_fault_number}
use Rattle.dirgwako.specs.declared.paged.OnPage.{OnPage}
use Rattle.dirgwako.specs.declared.printing.TextFault.{TextFault}
use Rattle.dirgwako.specs.Registering.{AsksFamily, AsksChild, AsksMetric, shifted_family_of}
use Rattle.dirgwako.specs.Refused.{family_refusal_number, child_refusal_number}
use Rattle.dirgwako.specs.declared.fault.ChildRefusal.{ChildRefusal}
use Rattle.dirgwako.specs.declared.fault.FamilyRefusal.{FamilyRefusal}
use Rattle.dirgwako.specs.declared.fault.MetricRefusal.{MetricRefusal}
use Rattle.dirgwako.specs.declared.fault.MetricRefusal.TheVariants as metric
use Rattle.expo_text.specs.Scraped.{Scraped}
use Rattle.metric_desc.specs.Desc.{Descriptor}
use Rattle.metric_desc.specs.declared.kind.Kind.{Kind}
use Rattle.metric_desc.specs.declared.kind.Kind.TheVariants as Kinds
use Rattle.page_crew.specs.Held.{first_of as first_board_of}
use Rattle.page_crew.specs.Following.{ScrapesByScraper}
use Rattle.page_crew.specs.Owned.{first_of, page_of, IsOpened, IsUnchanged, KeepsFromNow, ScrapesByCrew}
use Rattle.page_crew.specs.Told.{news_of, AreAppointed}
use Rattle.page_crew.specs.declared.owner.PageCrew.{PageCrew}
use Rattle.page_crew.specs.declared.page_recorder.PageRecorder.{PageRecorder}
use Rattle.page_crew.specs.declared.page_scraper.PageScraper.{PageScraper}
use Rattle.page_crew.specs.declared.shared_scanner.SharedScanner.{SharedScanner}
use Rattle.register_rule.specs.Faults.{IsBoardSize}
use Rattle.registry_state.specs.Faults.{IsWindow}
use Rattle.registry_state.specs.declared.handle.Handle.{Handle}
use Rattle.registry_state.specs.declared.handle.FamilyId.{FamilyId}
use Rattle.scrape_http.specs.Serves.{IsServed, IsUnserved, is_read_failed, number_of as wire_fault_number}
use Rattle.scrape_http.specs.declared.fault.WireFault.{WireFault}
use Rattle.scrape_http.specs.declared.serve.Served.{Served}
use Rattle.scrape_http.specs.declared.source.NoScrape.{NoScrape}
use Rattle.scrape_page.specs.Families.{PageView}
use Rattle.dirgwako_c.specs.Held.{answer_of}
use Rattle.dirgwako_c.specs.declared.family.Asked.{Asked}
use Rattle.dirgwako_c.specs.declared.family.Asked.TheVariants as asked
use Rattle.dirgwako_c.specs.declared.held.HeldRecorder.{HeldRecorder}
use Rattle.dirgwako_c.specs.declared.held.HeldRegistry.{HeldRegistry}
use Rattle.dirgwako_c.specs.declared.held.HeldScraper.{HeldScraper}
use Rattle.dirgwako_c.specs.declared.spare.Spare.{Spare}

-- a page of this geometry, with all who work on its boards
abbrev pub Owner : (N C H G : ℕ) → Type 0
Owner N C H G = PageCrew N C H G

-- such a page, and the group of the families to come
abbrev pub Grouped : (N C H G : ℕ) → Type 0
Grouped N C H G = OnPage N C H G

module _ {N C H G : ℕ} where
  -- the recorder that a handle holds
  abbrev pub recorder_in : HeldRecorder N C H G → PageRecorder N C H G
  recorder_in held = held.recorder

  -- the recorders that nobody has, in order
  abbrev pub recorders_in : Spare N C H G → List (HeldRecorder N C H G)
  recorders_in spare = map (λ b. b.value) spare.recorders.items

  -- the scraper that a handle holds
  abbrev pub scraper_in : HeldScraper N C H G → PageScraper N C H G
  scraper_in held = held.scraper

  -- what stands in a box
  abbrev pub unboxed : Box (HeldScraper N C H G) Global → HeldScraper N C H G
  unboxed box = box.value

  -- the page that a registry's handle holds, with the group of the families to come
  abbrev pub grouped_in : HeldRegistry N C H G → Grouped N C H G
  grouped_in held = held.registrar.at

  -- the page, with all who work on its boards
  abbrev pub owner_in : HeldRegistry N C H G → Owner N C H G
  owner_in held = (grouped_in held).crew

  -- its boards and families
  abbrev pub page_in : HeldRegistry N C H G → PageView (SharedScanner N C H G)
  page_in held = page_of (owner_in held)

  -- the recorders of the page that nobody has
  abbrev pub spare_in : HeldRegistry N C H G → List (HeldRecorder N C H G)
  spare_in held = recorders_in held.spare

  -- the scrapers of the page that nobody has, in order
  abbrev pub scrapers_in : HeldRegistry N C H G → List (HeldScraper N C H G)
  scrapers_in held = map unboxed held.scrapers.items

  -- the recorders and the scrapers that nobody has are those that nobody had
  abbrev pub SparesStay : (before after : HeldRegistry N C H G) → Type 0
  SparesStay before after = (spare_in after ≡ spare_in before) × (scrapers_in after ≡ scrapers_in before)

  -- no scraper was told anything
  abbrev pub TellsNobody : (before after : Owner N C H G) → Type 0
  TellsNobody before after = news_of after ≡ news_of before

  -- A page of this id, of one board on which nothing is registered and nothing was counted; its recorders are there, one of each
  -- worker, in order, and so many scrapers, and nobody has them
  abbrev pub IsNew : (id window scrapers : ℕ) → HeldRegistry N C H G → Type 0
  IsNew id window scrapers held = IsOpened (128 * id) window (owner_in held) (map recorder_in (spare_in held))
      × AreAppointed scrapers (owner_in held) (map scraper_in (scrapers_in held))

-- why there is none: 31 the window is none; else 6, there was no memory, or 13, the library was built for numbers out of range,
-- or a board has not as many readers
abbrev pub IsNewAnswer : (N C H G : ℕ) → (window scrapers answer : ℕ) → Type 0
IsNewAnswer N C H G window scrapers answer = (¬ (IsWindow window) × (answer ≡ 31))
    ⊎ (IsWindow window × (((answer ≡ 6) × IsBoardSize N C H G (1 + scrapers)) ⊎ ((answer ≡ 13) × ¬ (IsBoardSize N C H G (1 +
    scrapers)))))

-- the kind of family that is asked for, and its bounds: only a histogram has any
abbrev pub shape_of : Asked → Kind × List ℕ
shape_of asked.Counter = (Kinds.Counter, [])
shape_of asked.Gauge = (Kinds.Gauge, [])
shape_of (asked.Histogram bounds) = (Kinds.Histogram, bounds.now)

-- the family that is asked for by these texts
abbrev pub said_of : Asked → (name help : List ℕ) → (labels : List (Bor (List ℕ))) → (digits : ℕ) → Descriptor
said_of kind name help labels digits = shifted_family_of (shape_of kind).0 name help labels (shape_of kind).1 digits

-- the number of each reason for which there is no metric without labels: 48 where its family is registered from now on and its
-- child is not made, for want of a slot or of memory
abbrev pub metric_answer : MetricRefusal → ℕ
metric_answer (metric.Family fault) = family_refusal_number fault
metric_answer (metric.Child id fault) = 48

module _ {N C H G : ℕ} where
  -- a handle was given such a registry; or it is as it was
  abbrev pub Opens : (id window scrapers answer : ℕ) → (before after : Option (HeldRegistry N C H G)) → Type 0
  Opens id window scrapers answer before after = ((answer ≡ 0) × IsSomeAnd after (IsNew id window scrapers))
      ⊎ (IsNewAnswer N C H G window scrapers answer × (after ≡ before))

  -- the last spare recorder was handed out; or there is none (35)
  abbrev pub HandsOut : (answer : ℕ) → (before after : HeldRegistry N C H G) → (had has : Option (HeldRecorder N C H G)) → Type 0
  HandsOut answer before after had has = (grouped_in after ≡ grouped_in before) × (scrapers_in after ≡ scrapers_in before)
      × (((answer ≡ 0) × ((recorder : HeldRecorder N C H G) × (has ≡ Some recorder) × (spare_in before ≡ spare_in after ++
      recorder ∷ [])))
      ⊎ ((answer ≡ 35) × (spare_in before ≡ []) × (spare_in after ≡ []) × (has ≡ had)))

  -- the last spare scraper was handed out; or there is none (49)
  abbrev pub HandsOutScraper : (answer : ℕ) → (before after : HeldRegistry N C H G) → (had has : Option (HeldScraper N C H G)) →
      Type 0
  HandsOutScraper answer before after had has = (grouped_in after ≡ grouped_in before) × (spare_in after ≡ spare_in before)
      × (((answer ≡ 0) × ((scraper : HeldScraper N C H G) × (has ≡ Some scraper) × (scrapers_in before ≡ scrapers_in after ++
      scraper ∷ [])))
      ⊎ ((answer ≡ 49) × (scrapers_in before ≡ []) × (scrapers_in after ≡ []) × (has ≡ had)))

  -- A recorder was taken back, behind the spare ones. Or it is of a page of another first board, or one of each worker is spare
  -- already (16); or there is none (34): nothing has changed then
  abbrev pub TakesBack : (answer : ℕ) → (before after : HeldRegistry N C H G) → (had has : Option (HeldRecorder N C H G)) → Type 0
  TakesBack answer before after None has = (answer ≡ 34) × (has ≡ None) × (grouped_in after ≡ grouped_in before)
      × SparesStay before after
  TakesBack answer before after (Some recorder) has = (grouped_in after ≡ grouped_in before) × (scrapers_in after ≡ scrapers_in
      before)
      × (((answer ≡ 0) × (has ≡ None) × (spare_in after ≡ spare_in before ++ recorder ∷ [])
      × (first_board_of (recorder_in recorder) ≡ first_of (owner_in before)))
      ⊎ ((answer ≡ 16) × (has ≡ Some recorder) × (spare_in after ≡ spare_in before)
      × ((first_board_of (recorder_in recorder) ≢ first_of (owner_in before)) ⊎ (N ≤ length (spare_in before)))))

  -- each board keeps so many scrapes from now on, the newest ones, and so does each that comes; or the window is none (31), and
  -- nothing has changed
  abbrev pub SetsWindow : (window answer : ℕ) → (before after : Owner N C H G) → Type 0
  SetsWindow window answer before after = TellsNobody before after × ((IsWindow window × (answer ≡ 0) × KeepsFromNow window before
      after)
      ⊎ (¬ (IsWindow window) × (answer ≡ 31) × IsUnchanged before after))

  -- one scrape of the page that a handle holds, and its answer
  abbrev pub scrapes_by : (before after : HeldRegistry N C H G) → Result Scraped NoScrape → Type 0
  scrapes_by before after answer = ScrapesByCrew (owner_in before) (owner_in after) answer × SparesStay before after

  -- one scrape by a scraper that a handle holds, and its answer
  abbrev pub scrapes_alone : (before after : HeldScraper N C H G) → Result Scraped NoScrape → Type 0
  scrapes_alone before after answer = ScrapesByScraper (scraper_in before) (scraper_in after) answer

  -- the page, whose next families are of this group
  abbrev pub in_group : (group : ℕ) → Grouped N C H G → Grouped N C H G
  in_group group page = record page { group = group }

  -- what is done and answered where a metric without labels is asked for
  abbrev pub AsksMetricAt : (before after : Grouped N C H G) → Descriptor → Result Handle MetricRefusal → Type 0
  AsksMetricAt = AsksMetric (λ page. first_of page.crew) RegistersOnPage GivesOnPage

  module _ {A : Type 0} (handle_of : A → Handle) (answer : ℕ) (before after : Grouped N C H G) (had has : A) where
    -- A metric without labels was asked for, of this descriptor, in the group 0: this was done, and the answer is 0, or the
    -- number of its refusal, and then what C has is as it was. No refusal's number is 0
    pub record MakesMetric (desc : Descriptor) : Type 0 where
      pub made : Result Handle MetricRefusal
      pub asks : AsksMetricAt (in_group 0 before) after desc made
      pub answer_is : answer ≡ answer_of metric_answer made
      pub told : IfOk made (λ handle. handle ≡ handle_of has)
      pub kept : OnErr made (has ≡ had)

    -- the same, by bytes; where the name or the help is not UTF-8 that is refused by 36, and nothing has changed
    abbrev pub MakesNamed : (name help : List ℕ) → Descriptor → Type 0
    MakesNamed name help desc = ((¬ (IsUtf8 name) ⊎ ¬ (IsUtf8 help)) × (answer ≡ 36) × (after ≡ before) × (has ≡ had))
        ⊎ (IsUtf8 name × IsUtf8 help × MakesMetric desc)

  -- what is done and answered where a family is asked for
  abbrev pub AsksFamilyAt : (before after : Grouped N C H G) → Descriptor → Result FamilyId FamilyRefusal → Type 0
  AsksFamilyAt = AsksFamily RegistersOnPage

  -- what is done and answered where a child is asked for
  abbrev pub AsksChildAt : (before after : Grouped N C H G) → (registry : ℕ) → FamilyId → (values : List (List ℕ)) → Kind → Result
      Handle ChildRefusal
      → Type 0
  AsksChildAt = AsksChild (λ page. first_of page.crew) GivesOnPage

  module _ {A : Type 0} (answer : ℕ) (before after : Grouped N C H G) (had has : A) where
    -- there was no memory for the list of texts, or one of them is not UTF-8, and nothing has changed
    abbrev pub IsNoList : (texts : List (List ℕ)) → Type 0
    IsNoList texts = ((answer ≡ 6) ⊎ ((answer ≡ 36) × ¬ (All IsUtf8 texts))) × (after ≡ before) × (has ≡ had)

    -- A family was asked for, of this descriptor, in this group: this was done, and the answer is 0, or the number of its
    -- refusal, and then what C has is as it was. No refusal's number is 0
    pub record MakesFamily (group : ℕ) (id_of : A → FamilyId) (registry_of : A → ℕ) (desc : Descriptor) : Type 0 where
      pub made : Result FamilyId FamilyRefusal
      pub asks : AsksFamilyAt (in_group group before) after desc made
      pub answer_is : answer ≡ answer_of family_refusal_number made
      pub told : IfOk made (λ id. (id_of has ≡ id) × (registry_of has ≡ first_of after.crew))
      pub kept : OnErr made (has ≡ had)

    -- the same, by bytes; where some are not UTF-8 that is refused by 36, and nothing has changed
    abbrev pub MakesFamilyBy : (group : ℕ) (id_of : A → FamilyId) (registry_of : A → ℕ) → (name help : List ℕ) (labels : List
        (List ℕ))
        → Descriptor → Type 0
    MakesFamilyBy group id_of registry_of name help labels desc =
        ((¬ (IsUtf8 name) ⊎ ¬ (IsUtf8 help)) × (answer ≡ 36) × (after ≡ before) × (has ≡ had))
        ⊎ ((IsUtf8 name × IsUtf8 help × IsNoList labels)
        ⊎ (IsUtf8 name × IsUtf8 help × All IsUtf8 labels × MakesFamily group id_of registry_of desc))

    -- this was made, of at most 9 digits; or more were asked for (43), and nothing has changed
    abbrev pub MakesShifted : (digits : ℕ) → (made : Type 0) → Type 0
    MakesShifted digits made = ((digits ≤ 9) × made) ⊎ ((9 < digits) × (answer ≡ 43) × (after ≡ before) × (has ≡ had))

    -- A child of a family was asked for, by these label values: this was done, and the answer is 0, or the number of its refusal,
    -- and then what C has is as it was. No refusal's number is 0
    pub record GivesChild (handle_of : A → Handle) (registry : ℕ) (id : FamilyId) (values : List (List ℕ)) (kind : Kind) : Type 0
      where
        pub given : Result Handle ChildRefusal
        pub asks : AsksChildAt before after registry id values kind given
        pub answer_is : answer ≡ answer_of child_refusal_number given
        pub told : IfOk given (λ handle. handle ≡ handle_of has)
        pub kept : OnErr given (has ≡ had)

    -- the same, by bytes
    abbrev pub GivesChildBy : (handle_of : A → Handle) (registry : ℕ) (id : FamilyId) (values : List (List ℕ)) (kind : Kind) →
        Type 0
    GivesChildBy handle_of registry id values kind = IsNoList values
        ⊎ (All IsUtf8 values × GivesChild handle_of registry id values kind)

-- The buffer begins with these bytes, behind which it is as it was, and so many they are; or it is too short for them (37), and
-- is as it was
abbrev pub IsHandedOver : (bytes : List ℕ) → (answer : ℕ) → (had has : List ℕ) → (has_len : ℕ) → Type 0
IsHandedOver bytes answer had has has_len = (has_len ≡ length bytes)
    × (((answer ≡ 0) × (has ≡ bytes ++ drop (length bytes) had)) ⊎ ((answer ≡ 37) × (length had < length bytes) × (has ≡ had)))

module _ {S : Type 0} (gave : S → S → Result Scraped NoScrape → Type 0) (answer : ℕ) (before after : S) (had has : List ℕ)
    (had_len has_len : ℕ) where
  -- the text of a scrape that the source gave was handed over; or there is no scrape or no memory for its text, and the buffer
  -- and the length are as they were
  abbrev pub PrintsTo : Type 0
  PrintsTo = ((bytes : List ℕ) × IsText gave 0 before after bytes × IsHandedOver bytes answer had has has_len)
      ⊎ ((fault : TextFault) × (answer ≡ text_fault_number fault) × IsTextFault gave 0 before after fault × (has ≡ had)
      × (has_len ≡ had_len))

-- what became of a reply that was written whole, or why there is none: then the buffer and the length are as they were
abbrev pub IsReplied : (bytes : List ℕ) → (answer : ℕ) → (had has : List ℕ) → (had_len has_len : ℕ) → Result Served WireFault →
    Type 0
IsReplied bytes answer had has had_len has_len (Ok served) = IsHandedOver bytes answer had has has_len
IsReplied bytes answer had has had_len has_len (Err fault) = (answer ≡ wire_fault_number fault) × (has ≡ had) × (has_len ≡
    had_len)

module _ {S : Type 0} (gave : S → S → Result Scraped NoScrape → Type 0) (request : List ℕ) (answer : ℕ) (before after : S)
    (had has : List ℕ) (had_len has_len : ℕ) where
  -- The reply to what the request's bytes ask for was written and handed over, as a server gives it: a 200 is the text of a
  -- scrape that this source gave. Where a read failed, which bytes do not, nothing was written
  pub record Replies : Type 0 where
    pub rest : List ℕ
    pub bytes : List ℕ
    pub failed : Bool
    pub ended : Bool
    pub latest : ℕ
    pub served : Result Served WireFault
    pub is_served : failed ≡ false
        → IsServed gave before after (Some request) (Some rest) (Some []) (Some bytes) ended latest served
    pub is_unserved : failed ≡ true → IsUnserved before after (Some []) (Some bytes)
    pub failed_is : failed ≡ is_read_failed served
    pub replied : IsReplied bytes answer had has had_len has_len served
