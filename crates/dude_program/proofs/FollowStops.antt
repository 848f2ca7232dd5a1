-- How `follow` ends behind its opening, by what became of the texts of its files.
use Rattle.std.proofs.Common.{◌≡◌, ℕ, ◌+◌, ◌<◌, Bool, true, false, IsTrue, List, [], ◌∷◌, length, map, refl, ◌∙◌, ap, subst, Option, Some, None, Ok}
use Rattle.std.specs.List.{AllZip}
use Rattle.dude_base.specs.declared.sizes.Sizes.{Sizes}
use Rattle.dude_base.specs.Records.{RedoBundle, overwritten_by_all}
use Rattle.pmem_trait.specs.declared.medium.Medium.{Ghosts}
use Rattle.pmem_trait.specs.Sights.{AtEveryMoment, IsAtRest, Risen, Sight, SomeCalls, state_now}
use Rattle.pmem_trait.specs.Reads.{ContentHas}
use Rattle.pmem_trait.proofs.Runs.{made_later, ran_here}
use Rattle.back_store.specs.Back.{idle}
use Rattle.back_store.specs.BackView.{sight_of}
use Rattle.back_store.specs.Operations.{MakesOperations}
use Rattle.dude_io.specs.Files.{FilesSight}
use Rattle.dude_io.specs.Sink.{SinkSight}
use Rattle.dude_io.specs.declared.file_text.FileText.{FileText}
use Rattle.dude_recover.specs.declared.opened.Opened.{Opened}
use Rattle.dude_recover.specs.Opened.{HoldsOpened, IsOpened}
use Rattle.image_recovery.specs.Recovered.{RecoversArray}
use Rattle.dude_follow.specs.declared.follower.Follower.{Follower}
use Rattle.dude_follow.specs.Applying.{HoldsArray, RecoversAlong, Tells}
use Rattle.dude_follow.specs.Follower.{StartsOn, follower_back, follower_sight, follower_state}
use Rattle.dude_follow.proofs.Chains.{told_then}
use Rattle.command_edges.specs.Command.{Meaning.FollowFiles}
use Rattle.command_edges.specs.CommandFile.{packet_files}
use Rattle.command_edges.specs.declared.file_kind.FileKind.TheVariants.{Packets}
use Rattle.command_edges.specs.Reads.{ReadsInOrder}
use Rattle.command_edges.specs.Texts.{IsTextOf}
use Rattle.command_edges.specs.declared.fault.Fault.{Fault}
use Rattle.command_edges.specs.declared.fault.Fault.TheVariants as fault
use Rattle.command_edges.proofs.Zips.{AllZip-unmapped}
use Rattle.command_openings.specs.Opens.{Opens, OpensOwn, RecoversOwn}
use Rattle.command_openings.specs.Openings.{IsOpeningOn}
use Rattle.dude_engine.specs.Opening.{Opening}
use Rattle.dude_program.specs.World.{world_of}
use Rattle.dude_program.specs.Delivery.{FOLLOWER_ROOM, packets_in}
use Rattle.dude_program.specs.Ended.{Ends}
use Rattle.dude_program.specs.Follow.{AppliesInOrder, FollowsFiles, ImagesRecover, IsLeftApplied, followed_text}
use Rattle.dude_program.specs.Taking.{StopsInText, StopsInTexts, TakesPackets, TakesTexts}
use Rattle.dude_program.specs.Work.{PrintsText}
use Rattle.dude_program.proofs.ArrayMoments.{one_array, opened_along}
use Rattle.dude_program.proofs.Came.{ImageOpens, opened_old}
use Rattle.dude_program.proofs.EachCommand.{follow_opens, is_opening_of, opening_of}
use Rattle.dude_program.proofs.FilesRead.{FilesRead}
use Rattle.dude_program.proofs.FollowEnds.{ends_bad, ends_dropped, ends_failed, ends_strange, ends_taken, not_judged}
use Rattle.dude_program.proofs.Followed.{Delivered, all_delivered, all_files, applies_as, applies_delivered, applies_none, ends_applied, packet_files_read, stopped_bad, stopped_delivered, stopped_strange, taken_operates}

module _ {M : Type 0} {ghosts : Ghosts M} (names : List (List ℕ)) {f g : FilesSight} (k : SinkSight) (texts : List FileText) (read : AllZip (IsTextOf f) (packet_files names) texts)
    (reads : ReadsInOrder (packet_files names) None f g) (medium : M) (settled : IsAtRest (ghosts.sight medium)) (o : Opened M ghosts) (is_opened : IsOpened o) (own : OpensOwn ghosts.sight medium o)
    (recovered : RecoversOwn ghosts.sight medium o) where
  abbrev s : Sight
  s = ghosts.sight medium

  abbrev m : Sight
  m = sight_of o.back

  abbrev opening : Opening
  opening = opening_of o is_opened

  abbrev Both : Sight → SinkSight → Option Fault → Type 0
  Both t l why = Ends (FollowFiles names) (world_of s f k) (world_of t g l) [] why × FollowsFiles names (world_of s f k) (world_of t g l) why

  is_open : IsOpeningOn s opening × Opens false opening o.words.items s m
  is_open = own opening (is_opening_of o is_opened)

  opened : ImageOpens (FollowFiles names) opening o.words.items s m
  opened = opened_old (follow_opens names s) refl is_open.0 is_open.1

  files : FilesRead (FollowFiles names) f g
  files = packet_files_read names texts read reads

  along : {sizes : Sizes} {number : ℕ} {array : List ℕ} → ContentHas (RecoversArray sizes number array) s → AtEveryMoment (RecoversAlong sizes number [] array (length (state_now s).told)) s m
  along other = opened_along s m settled other recovered is_opened.small is_open.1.calls

  -- there was no memory for the follower, and no call was made
  pub no_follower : Both m k (Some fault.Memory)
  no_follower = ends_dropped files opened (λ sizes number array visible other. applies_none sizes number array names f s m (along other)) (ran_here m)

  module _ (some : 0 < length names) (slice : List FileText) (same : slice ≡ texts) (start end : Follower M ghosts) (starts : StartsOn o FOLLOWER_ROOM start)
      (held : (before : ℕ) (words : List ℕ) → HoldsOpened before o.sizes o.number words m → HoldsArray before (follower_back start) words (follower_sight start)) where
    sight : follower_sight start ≡ m
    sight = ap (λ (x : M). ghosts.sight x) starts.medium

    holds : HoldsArray (length (state_now s).told) (follower_back start) o.words.items (follower_sight start)
    holds = held (length (state_now s).told) o.words.items is_open.1.holds

    each_text : AllZip (λ name text. IsTextOf f (record { name = name; kind = Packets }) text) names texts
    each_text = AllZip-unmapped (IsTextOf f) (λ name. record { name = name; kind = Packets }) names texts read

    -- what every image recovers to, from what was delivered
    crash : Delivered o.sizes names f start end → (sizes : Sizes) (number : ℕ) (array : List ℕ) → IsTrue s.is_visible → ContentHas (RecoversArray sizes number array) s
        → AppliesInOrder sizes number array names f s (follower_sight end)
    crash delivered sizes number array visible other =
        applies_as s (follower_sight end) names f settled other recovered visible
        (applies_delivered o.sizes o.number o.words.items names f s m start end starts.state starts.room_is starts.back sight holds (along recovered) delivered)

    ran_from : {ok : Bool} → SomeCalls ok (follower_sight start) (follower_sight end) → SomeCalls ok m (follower_sight end)
    ran_from {ok} ran = subst (λ (u : Sight). SomeCalls ok u (follower_sight end)) sight ran

    -- what is left where all was taken
    left : {packets : List RedoBundle} (t : TakesPackets packets true start end) → IsLeftApplied opening t.records t.after.number s (follower_sight end)
    left t = record {
      told = told_then s m (follower_sight end) (opening.number ∷ []) (map (λ b. b.last) t.records) (made_later is_open.1.ran.1) is_open.1.told
          (subst (λ (u : Sight). Tells (map (λ b. b.last) t.records) u (follower_sight end)) sight (t.applies refl).told);
      images = λ array visible other.
          let seen : IsTrue (follower_sight end).is_visible = (made_later (ran_from t.ran).1).is_visible ∙ ((made_later is_open.1.ran.1).is_visible ∙ visible) in
          subst (λ (l : List ℕ). ImagesRecover o.sizes t.after.number (overwritten_by_all t.records l) (follower_sight end)) (one_array s settled recovered visible other).1
          (ends_applied o.sizes o.number (length (state_now s).told) o.words.items start end starts.back holds t seen);
    }

    -- all texts were taken, and the output printed or not
    pub all_ends : {l : SinkSight} (dropped number waiting : ℕ) (why : Option Fault) → TakesTexts o.sizes slice (Ok dropped) start end
        → number ≡ (follower_state end).number → waiting ≡ length (follower_state end).kept → PrintsText (followed_text number waiting dropped) None why k l → Both (follower_sight end) l why
    all_ends {l} dropped number waiting why took is_number is_waiting printed = by (subst (λ (texts : List FileText). TakesTexts o.sizes texts (Ok dropped) start end) same took)
      where
        by : TakesTexts o.sizes texts (Ok dropped) start end → Both (follower_sight end) l why
        by taken_texts =
            let each = taken_texts.0 in
            let all = taken_texts.2 in
            let taken = all_files o.sizes o.number names f start end starts.state starts.room_is texts each_text each dropped taken_texts.1 all in
            let text : followed_text number waiting dropped ≡ followed_text all.0.after.number (length all.0.after.kept) dropped =
            ap (λ n. followed_text n waiting dropped) (is_number ∙ ap (λ t. t.number) (all.0.state refl)) ∙ ap (λ w. followed_text all.0.after.number w dropped) (is_waiting ∙ ap (λ t. length t.kept) (all.0.state refl)) in
            ends_taken files opened (crash (all_delivered o.sizes o.number names f start end starts.state starts.room_is texts each_text each dropped taken_texts.1 all)) (ran_from all.0.ran)
            (subst (λ (u : Sight). MakesOperations (idle o.sizes o.number) u (follower_sight end)) sight (taken_operates o.sizes o.number (packets_in each) start end starts.back all.0)) taken (left all.0) why
            (subst (λ (t : List ℕ). PrintsText t None why k l) (text ∙ ap (λ d. followed_text all.0.after.number (length all.0.after.kept) d) all.2) printed)

    -- a text stopped it
    pub stop_ends : (why : Fault) → StopsInTexts o.sizes slice why start end → Both (follower_sight end) k (Some why)
    stop_ends why stopped = by (subst (λ (texts : List FileText). StopsInTexts o.sizes texts why start end) same stopped)
      where
        by : StopsInTexts o.sizes texts why start end → Both (follower_sight end) k (Some why)
        by stops = own_fault why stops.stops (stopped_delivered o.sizes o.number names f start end starts.state starts.room_is texts each_text why stops why refl stops.stops)
          where
            own_fault : (own : Fault) → StopsInText o.sizes (packets_in stops.each) stops.text (length stops.earlier + 1) own start end → Delivered o.sizes names f start end
                → Both (follower_sight end) k (Some own)
            own_fault (fault.Text file row field) stop delivered =
                ends_bad files opened (crash delivered) file row field (ran_from stop.1.1.0.ran) (not_judged names some)
                (stopped_bad o.sizes o.number names f start end starts.state starts.room_is texts each_text why stops file row field stop) (left stop.1.1.0)
            own_fault (fault.Strange file packet) stop delivered =
                ends_strange files opened (crash delivered) file packet (ran_from stop.2.1.taken.0.ran)
                (stopped_strange o.sizes o.number names f start end starts.state starts.room_is texts each_text why stops file packet stop) (left stop.2.1.taken.0)
            own_fault fault.Memory stop delivered = ends_dropped files opened (crash delivered) (ran_from stop.1.0.ran)
            own_fault fault.Device stop delivered =
                ends_failed files opened (crash delivered) (ran_from stop.2.taken.ran) (subst (λ (u : Sight). Risen u.faults (follower_sight end).faults) sight (stop.2.taken.cause refl))
            own_fault other stop delivered = absurd stop.2
