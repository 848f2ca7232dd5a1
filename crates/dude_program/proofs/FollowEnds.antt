-- How `follow` ends: its causes, and what it promises in place of the headline.
use Rattle.std.proofs.Common.{◌≡◌, ℕ, ◌<◌, true, false, IsTrue, List, [], ◌∷◌, length, refl, sym, subst, inl, inr, arith, Option, Some, None}
use Rattle.std.specs.Prelude.{⊤}
use Rattle.pmem_trait.specs.Words.{IsSettled}
use Rattle.pmem_trait.specs.Sights.{AtEveryMoment, Risen, Sight, SomeCalls, state_now}
use Rattle.pmem_trait.specs.Reads.{ContentHas}
use Rattle.pmem_trait.proofs.Runs.{made_later, risen_later}
use Rattle.dude_base.specs.declared.sizes.Sizes.{Sizes}
use Rattle.back_store.specs.Back.{idle}
use Rattle.back_store.specs.Operations.{MakesOperations}
use Rattle.dude_io.specs.Files.{FilesSight}
use Rattle.dude_io.specs.Sink.{SinkSight}
use Rattle.image_recovery.specs.Recovered.{RecoversArray}
use Rattle.dude_follow.specs.Applying.{RecoversAlong}
use Rattle.command_edges.specs.Command.{Meaning.FollowFiles}
use Rattle.command_edges.specs.CommandFile.{packet_files}
use Rattle.command_edges.specs.Files.{HasFileFault, HasReadFault}
use Rattle.command_edges.specs.Printing.{StopsIn}
use Rattle.command_edges.specs.declared.fault.Fault.{Fault}
use Rattle.command_edges.specs.declared.fault.Fault.TheVariants.{File, Text, Unformatted, Damaged, NotDb, Device, Output, Memory, Strange}
use Rattle.command_edges.proofs.Order.{IsNoReadFault}
use Rattle.command_openings.specs.Faults.{HasOpenFault}
use Rattle.command_openings.specs.Openings.{IsOpeningOn}
use Rattle.dude_engine.specs.Opening.{Opening, IsOpening}
use Rattle.dude_program.specs.World.{SinkStays, world_of}
use Rattle.dude_program.specs.Causes.{EndedWell, HasCause, MustRefuse, FailsOnlyAtDevice, SucceedsIfGood, Untouched}
use Rattle.dude_program.specs.Delivery.{IsRefusedDelivery, TakesFiles, drops_of}
use Rattle.dude_program.specs.Ended.{Ends}
use Rattle.dude_program.specs.Follow.{AppliesInOrder, FollowedAll, FollowsFiles, IsLeftApplied, IsLeftInFront, RefusedDelivery, RunsFollower, followed_text}
use Rattle.dude_program.specs.Headline.{TookAll, TookPrefix}
use Rattle.dude_program.specs.Opening.{judges_files}
use Rattle.dude_program.specs.Work.{PrintsText}
use Rattle.dude_program.proofs.ArrayMoments.{rest_along, unopened_along}
use Rattle.dude_program.proofs.Came.{ImageOpens, opens_once, ran_behind}
use Rattle.dude_program.proofs.Contents.{opens_not_refused}
use Rattle.dude_program.proofs.Endings.{once_by, sink_same, sink_took, took_prefix}
use Rattle.dude_program.proofs.FilesRead.{FilesRead, read_bad, read_before, read_fits, read_missing}
use Rattle.dude_program.proofs.Followed.{applies_none}
use Rattle.dude_program.proofs.Led.{follows_files}
use Rattle.dude_program.proofs.Refusals.{passes_if}

-- ---- before the opening

-- why files of packets weren't read
pub read_fault : (names : List (List ℕ)) (f g : FilesSight) (fault : Fault) → HasReadFault (packet_files names) f g fault → HasFileFault (packet_files names) f g fault
read_fault names f g (File number) has = has
read_fault names f g Memory has = tt
read_fault names f g fault has = absurd has

-- a fault at which nothing was printed, and of which nothing more is said
abbrev IsPlain : Fault → Type 0
IsPlain (Text file row field) = ⊥
IsPlain (Strange file packet) = ⊥
IsPlain Output = ⊥
IsPlain _ = ⊤

plain_runs : (names : List (List ℕ)) (s t : Sight) (f g : FilesSight) (k : SinkSight) (fault : Fault) → IsPlain fault → RunsFollower names (world_of s f k) (world_of t g k) (Some fault)
plain_runs names s t f g k (Text file row field) plain = absurd plain
plain_runs names s t f g k (Strange file packet) plain = absurd plain
plain_runs names s t f g k Output plain = absurd plain
plain_runs names s t f g k Memory plain = inl refl
plain_runs names s t f g k fault plain = refl

-- nothing was taken
pub follows_none : (names : List (List ℕ)) (s t : Sight) (f g : FilesSight) (k : SinkSight) (fault : Fault) → IsPlain fault
    → ((sizes : Sizes) (number : ℕ) (array : List ℕ) → ContentHas (RecoversArray sizes number array) s → AtEveryMoment (RecoversAlong sizes number [] array (length (state_now s).told)) s t)
    → FollowsFiles names (world_of s f k) (world_of t g k) (Some fault)
follows_none names s t f g k fault plain moments =
    follows_files names (world_of s f k) (world_of t g k) (Some fault) (plain_runs names s t f g k fault plain)
    (λ sizes number array visible recovered. applies_none sizes number array names f s t (moments sizes number array recovered))

module _ (names : List (List ℕ)) (s : Sight) (settled : IsTrue s.is_visible → IsSettled s.len (state_now s)) where
  -- the medium wasn't called
  pub follows_at_rest : (f g : FilesSight) (k : SinkSight) (fault : Fault) → IsPlain fault → FollowsFiles names (world_of s f k) (world_of s g k) (Some fault)
  follows_at_rest f g k fault plain = follows_none names s s f g k fault plain (λ sizes number array recovered. rest_along s settled recovered)

  unread_plain : (f g : FilesSight) (fault : Fault) → HasReadFault (packet_files names) f g fault → IsPlain fault
  unread_plain f g (File number) has = tt
  unread_plain f g Memory has = tt
  unread_plain f g fault has = absurd has

  pub follows_unread : (f g : FilesSight) (k : SinkSight) (fault : Fault) → HasReadFault (packet_files names) f g fault → FollowsFiles names (world_of s f k) (world_of s g k) (Some fault)
  follows_unread f g k fault has = follows_at_rest f g k fault (unread_plain f g fault has)

  unopened_plain : (t : Sight) (fault : Fault) → HasOpenFault s t fault → IsPlain fault
  unopened_plain t Unformatted has = tt
  unopened_plain t (Damaged line) has = tt
  unopened_plain t (NotDb word) has = tt
  unopened_plain t Device has = tt
  unopened_plain t Memory has = tt
  unopened_plain t fault has = absurd has

  -- the image wasn't opened
  pub follows_unopened : (t : Sight) (f g : FilesSight) (k : SinkSight) (fault : Fault) → HasOpenFault s t fault → FollowsFiles names (world_of s f k) (world_of t g k) (Some fault)
  follows_unopened t f g k fault has = follows_none names s t f g k fault (unopened_plain t fault has) (λ sizes number array recovered. unopened_along s t settled recovered fault has)

-- ---- behind the opening

pub follow_passes : (names : List (List ℕ)) (f : FilesSight) (opening : Opening) (why : Fault) → MustRefuse (FollowFiles names) f opening why → ⊥
follow_passes names f opening why refuses = passes_if (FollowFiles names) f opening (λ line known no. no) (omega arith) (λ w no. no) (λ w no. no) (λ known n no. no.0) why refuses

-- packets are refused
refused_well : (names : List (List ℕ)) (f g : FilesSight) (opening : Opening) (s t : Sight) (k l : SinkSight) (fault : Fault) → IsOpeningOn s opening → IsOpening opening → (why : IsRefusedDelivery names f opening fault)
    → IsLeftInFront names f opening fault why s t → RefusedDelivery names (world_of s f k) (world_of t g l) fault
refused_well names f g opening s t k l fault on lawful why left = record { opening = opening; starts = on; lawful = lawful; why = why; left = left }

module _ {names : List (List ℕ)} {f g : FilesSight} {opening : Opening} {words : List ℕ} {s m t : Sight} (files : FilesRead (FollowFiles names) f g)
    (opened : ImageOpens (FollowFiles names) opening words s m) where
  pub follow_ends : {k l : SinkSight} (fault : Option Fault) → FailsOnlyAtDevice fault m t → (EndedWell fault → MakesOperations (idle opening.sizes opening.number) m t)
      → IsNoReadFault fault → HasCause (FollowFiles names) (world_of s f k) (world_of t g l) fault → SucceedsIfGood (FollowFiles names) (world_of s f k) (world_of t g l) fault
      → Untouched (FollowFiles names) fault s t [] → SinkStays k l → Ends (FollowFiles names) (world_of s f k) (world_of t g l) [] fault
  follow_ends fault ran operates unread cause complete untouched sink = record {
    headline = λ has. absurd (let no : ⊥ = cc in no);
    causes = record {
      cause = cause;
      order = record {
        missing = λ visible misses. absurd (read_missing files visible misses);
        bad = λ judged visible number row field bad. absurd (read_bad files number row field visible bad);
        format = λ why refuses. absurd (opened.at.fits why refuses);
        content = λ opens visible why refuses. absurd (opens_not_refused s opening why visible (opened.at.on opens) refuses);
        opening = λ opens visible other starts why refuses. absurd (follow_passes names f other why refuses);
      };
      complete = complete;
      untouched = untouched;
      spared = λ bad. absurd (elim bad [ inl unfit ↦ read_fits files unfit | inr refuses ↦ opened.at.fits refuses.0 refuses.1 ]);
      nothing = λ opens visible other starts why refuses. refl;
      ran = ran_behind files opened ran;
      once = λ opens. once_by (FollowFiles names) fault [] s t (opens_once files opened ran operates);
      reads = read_before files fault unread;
      sink = sink;
    };
  }

  quiet_ran : {fault : Option Fault} → SomeCalls true m t → (fault ≡ Some Device → ⊥) → FailsOnlyAtDevice fault m t
  quiet_ran ran other = (true, ran, (λ failed. absurd (let no : ⊥ = cc in no), λ is. absurd (other is)))

  module _ (crash : (sizes : Sizes) (number : ℕ) (array : List ℕ) → IsTrue s.is_visible → ContentHas (RecoversArray sizes number array) s → AppliesInOrder sizes number array names f s t) where
    promised : {k l : SinkSight} (fault : Option Fault) → RunsFollower names (world_of s f k) (world_of t g l) fault → FollowsFiles names (world_of s f k) (world_of t g l) fault
    promised {k} {l} fault runs = follows_files names (world_of s f k) (world_of t g l) fault runs crash

    -- there was no memory, and nothing was printed
    pub ends_dropped : {k : SinkSight} → SomeCalls true m t → Ends (FollowFiles names) (world_of s f k) (world_of t g k) [] (Some Memory) × FollowsFiles names (world_of s f k) (world_of t g k) (Some Memory)
    ends_dropped ran = (
      follow_ends (Some Memory) (quiet_ran ran (λ e. let no : ⊥ = cc in no)) (λ well. absurd well) tt tt (λ good medium unread output. inr refl) tt sink_same,
      promised (Some Memory) (inl refl),
    )

    -- a call failed
    pub ends_failed : {k : SinkSight} → SomeCalls false m t → Risen m.faults t.faults → Ends (FollowFiles names) (world_of s f k) (world_of t g k) [] (Some Device) × FollowsFiles names (world_of s f k) (world_of t g k) (Some Device)
    ends_failed ran risen =
        let rose = risen_later s.faults m.faults t.faults t.faults (made_later opened.is_open.ran.1).faults risen (omega arith) in (
          follow_ends (Some Device) (false, ran, (λ failed. refl, λ is. refl)) (λ well. absurd well) tt rose (λ good medium unread output. absurd (medium rose)) tt sink_same,
          promised (Some Device) refl,
        )

    -- a packet is bad
    pub ends_bad : {k : SinkSight} (file row field : ℕ) → SomeCalls true m t → (IsTrue (judges_files (FollowFiles names)) → ⊥) → (why : IsRefusedDelivery names f opening (Text file row field))
        → IsLeftInFront names f opening (Text file row field) why s t
        → Ends (FollowFiles names) (world_of s f k) (world_of t g k) [] (Some (Text file row field)) × FollowsFiles names (world_of s f k) (world_of t g k) (Some (Text file row field))
    ends_bad {k} file row field ran later why left = (
      follow_ends (Some (Text file row field)) (quiet_ran ran (λ e. let no : ⊥ = cc in no)) (λ well. absurd well) tt (λ judged. absurd (later judged))
          (λ good medium unread output. absurd (good.delivered opening opened.at.starts (Text file row field) why)) ((λ judged. absurd (later judged)), refl) sink_same,
      promised (Some (Text file row field)) (refl, refused_well names f g opening s t k k (Text file row field) (opened.at.on refl) opened.at.lawful why left),
    )

    -- a packet is strange
    pub ends_strange : {k : SinkSight} (file packet : ℕ) → SomeCalls true m t → (why : IsRefusedDelivery names f opening (Strange file packet)) → IsLeftInFront names f opening (Strange file packet) why s t
        → Ends (FollowFiles names) (world_of s f k) (world_of t g k) [] (Some (Strange file packet)) × FollowsFiles names (world_of s f k) (world_of t g k) (Some (Strange file packet))
    ends_strange {k} file packet ran why left = (
      follow_ends (Some (Strange file packet)) (quiet_ran ran (λ e. let no : ⊥ = cc in no)) (λ well. absurd well) tt
          (record { opening = opening; opens = refl; starts = opened.at.starts; lawful = opened.at.lawful; why = why })
          (λ good medium unread output. absurd (good.delivered opening opened.at.starts (Strange file packet) why)) refl sink_same,
      promised (Some (Strange file packet)) (refl, refused_well names f g opening s t k k (Strange file packet) (opened.at.on refl) opened.at.lawful why left),
    )

    -- all was taken
    module _ (ran : SomeCalls true m t) (operates : MakesOperations (idle opening.sizes opening.number) m t) (taken : TakesFiles opening.sizes opening.number f names)
        (left : IsLeftApplied opening taken.records taken.after.number s t) where
      abbrev text : List ℕ
      text = followed_text taken.after.number (length taken.after.kept) (drops_of taken.answers)

      all_taken : {k l : SinkSight} (Took : List ℕ → Type 0) → Took text → FollowedAll names (world_of s f k) (world_of t g l) Took
      all_taken Took took = record { opening = opening; starts = opened.at.on refl; lawful = opened.at.lawful; taken = taken; left = left; bytes = took }

      abbrev Both : SinkSight → SinkSight → Option Fault → Type 0
      Both k l fault = Ends (FollowFiles names) (world_of s f k) (world_of t g l) [] fault × FollowsFiles names (world_of s f k) (world_of t g l) fault

      at_output : {k l : SinkSight} (fault : Fault) → StopsIn text k l fault → Risen k.faults l.faults → Both k l (Some Output)
      at_output {k} {l} fault stops risen = (
        follow_ends (Some Output) (quiet_ran ran (λ e. let no : ⊥ = cc in no)) (λ well. operates) tt risen (λ good medium unread output. absurd (output risen)) tt (sink_took stops.took),
        promised (Some Output) (all_taken (TookPrefix k l) (took_prefix stops)),
      )

      at_memory : {k l : SinkSight} (fault : Fault) → StopsIn text k l fault → Both k l (Some Memory)
      at_memory {k} {l} fault stops = (
        follow_ends (Some Memory) (quiet_ran ran (λ e. let no : ⊥ = cc in no)) (λ well. absurd well) tt tt (λ good medium unread output. inr refl) tt (sink_took stops.took),
        promised (Some Memory) (inr (all_taken (TookPrefix k l) (took_prefix stops))),
      )

      pub ends_taken : {k l : SinkSight} (fault : Option Fault) → PrintsText text None fault k l → Both k l fault
      ends_taken {k} {l} None took = (
        follow_ends None (quiet_ran ran (λ e. let no : ⊥ = cc in no)) (λ well. operates) tt tt (λ good medium unread output. inl refl) tt (sink_took took),
        promised None (all_taken (TookAll k l) took.taken),
      )
      ends_taken {k} {l} (Some fault) (inl stops) = elim stops.only [
        | inl is ↦ subst (λ (x : Fault). Both k l (Some x)) (sym is) (at_output fault stops (stops.cause is))
        | inr is ↦ subst (λ (x : Fault). Both k l (Some x)) (sym is) (at_memory fault stops)
      ]
      ends_taken {k} {l} (Some fault) (inr none) =
          subst (λ (x : Fault). Both k l (Some x)) (sym none.0) (subst (λ (x : SinkSight). Both k x (Some Memory)) (sym none.1) (ends_dropped ran))

-- a file of packets isn't judged before the medium is called
pub not_judged : (names : List (List ℕ)) → 0 < length names → IsTrue (judges_files (FollowFiles names)) → ⊥
not_judged [] some judged = omega (arith, some)
not_judged (name ∷ names) some judged = let no : ⊥ = cc in no
