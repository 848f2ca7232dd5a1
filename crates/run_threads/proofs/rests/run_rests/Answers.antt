use Rattle.std.proofs.Common.{◌≡◌, ℕ, List, ◌++◌, length, map, refl, sym, ap, ◌∙◌, subst, arith}
use Rattle.std.specs.Prelude.{IsPermutation, slice_index}
use Rattle.std.specs.List.{All, AllPairs}
use Rattle.std.proofs.lemmas.List.{length-map}
use Rattle.tatp_model.specs.declared.done.Done.{Done}
use Rattle.tatp_model.specs.OneThread.{PrecedesInFiles}
use Rattle.run_order.specs.Runs.{StandApart}
use Rattle.run_order.specs.Rests.{shifted}
use Rattle.back_store.specs.BackView.{medium_of, state_of}
use Rattle.dude_engine.specs.declared.ran.RanEnd.TheVariants.{Device, NoMemory}
use Rattle.dude_engine.specs.Requests.{AreInRange, HasNumberEach, request_count}
use Rattle.run_threads.specs.Parts.{AreRests, IsCounted}
use Rattle.run_threads.specs.Starts.{start_of}
use Rattle.run_threads.proofs.AsideRun.{all_counted, as_long, cut_off, few, first_of_all, fits, in_range, may_read, no_memory, numbers, ran_all, room, size}
use Rattle.run_threads.proofs.Finishing.{ran_same}
use Rattle.run_threads.proofs.Standing.{none_behind}
use Rattle.run_threads.proofs.Uniting.{small_files}
use Rattle.run_threads.proofs.rests.run_rests.Goals as goal

pub returns-in_default-clause-ran : goal.returns-in_default-clause-ran
returns-in_default-clause-ran g c = λ o h.
    let sight = g.M.Medium.sight in let a = c.args in let files = map (λ f. f.items) a.files.now in let e = c.end_with in
    ran_same (start_of sight o a.lay) files a.done.items e.result.done.items NoMemory e.result.end a.closed.number e.result.last (sight (medium_of a.closed.back)) (sight e.result.medium)
    e.ensures.done e.ensures.end (e.ensures.last ∙ h.ended.ended.durable) (ap sight e.ensures.medium)
    (no_memory o a.lay a.frames files a.closed a.done.items a.counts.items h a.closed.number refl a.closed.back h.ended.ended)

pub reserve-requires : goal.reserve-requires
reserve-requires g c =
    let a = c.args in let files = map (λ f. f.items) a.files.now in let h = c.requires.aside.1 in
    let are = subst (λ (l : List ℕ). AreRests files l (map (λ f. f.items) c.in-Ok.rests.items)) c.as_slice.ensures.value c.in-Ok.ensures in
    let most = few c.requires.aside.0 a.lay a.frames files a.closed a.done.items a.counts.items h (map (λ f. f.items) c.in-Ok.rests.items) are in
    let same = ap (λ l. request_count (map (λ f. f.items) l)) c.as_slice-2.ensures.value in
    omega arith

pub returns-in_default-reserve-clause-ran : goal.returns-in_default-reserve-clause-ran
returns-in_default-reserve-clause-ran g c = λ o h.
    let sight = g.M.Medium.sight in let a = c.args in let files = map (λ f. f.items) a.files.now in let e = c.end_with-in_default-reserve in
    ran_same (start_of sight o a.lay) files a.done.items e.result.done.items NoMemory e.result.end a.closed.number e.result.last (sight (medium_of a.closed.back)) (sight e.result.medium)
    (e.ensures.done ∙ c.reserve.ensures.items) e.ensures.end (e.ensures.last ∙ h.ended.ended.durable) (ap sight e.ensures.medium)
    (no_memory o a.lay a.frames files a.closed a.done.items a.counts.items h a.closed.number refl a.closed.back h.ended.ended)

pub read_home-requires : goal.read_home-requires
read_home-requires g c =
    let a = c.args in let files = map (λ f. f.items) a.files.now in
    record { may = may_read c.requires.aside.0 a.lay a.frames files a.closed a.done.items a.counts.items c.requires.aside.1 }

pub returns-in_default-read_home-clause-ran : goal.returns-in_default-read_home-clause-ran
returns-in_default-read_home-clause-ran g c = λ o h.
    let sight = g.M.Medium.sight in let a = c.args in let files = map (λ f. f.items) a.files.now in let e = c.end_with-in_default-read_home in let new = c.read_home.new.closed in
    ran_same (start_of sight o a.lay) files a.done.items e.result.done.items Device e.result.end (state_of new.back).log.durable e.result.last (sight (medium_of new.back)) (sight e.result.medium)
    (e.ensures.done ∙ c.reserve.ensures.items) e.ensures.end e.ensures.last (ap sight e.ensures.medium)
    (cut_off o a.lay a.frames files a.closed a.done.items a.counts.items h new.number c.read_home.ensures.number new.back (c.in_default-read_home.ensures.err o h.view h.ended))

pub reopen-requires-clause-room : goal.reopen-requires-clause-room
reopen-requires-clause-room g c =
    let a = c.args in let files = map (λ f. f.items) a.files.now in let o = c.requires.aside.0 in let h = c.requires.aside.1 in
    room o a.lay a.frames files a.closed a.done.items a.counts.items h c.read_home.new.closed c.read_home.ensures.number (c.in-Ok-read_home.ensures.ok o h.view h.ended)

pub reopen-requires-clause-size : goal.reopen-requires-clause-size
reopen-requires-clause-size g c =
    let a = c.args in let files = map (λ f. f.items) a.files.now in let o = c.requires.aside.0 in let h = c.requires.aside.1 in
    size o a.lay a.frames files a.closed a.done.items a.counts.items h c.read_home.new.closed c.read_home.ensures.number (c.in-Ok-read_home.ensures.ok o h.view h.ended)

pub plain-behind-requires-clause-rings : goal.plain-behind-requires-clause-rings
plain-behind-requires-clause-rings g c =
    let a = c.args in let files = map (λ f. f.items) a.files.now in let o = c.requires.aside.0 in let h = c.requires.aside.1 in
    let rests = map (λ f. f.items) c.in-Ok.rests.items in
    let are = subst (λ (l : List ℕ). AreRests files l rests) c.as_slice.ensures.value c.in-Ok.ensures in
    let within = c.requires.rings in let many = length-map a.files.now (λ f. f.items) in
    let as_long = as_long o a.lay a.frames files a.closed a.done.items a.counts.items h rests are in let sizes = ap (λ z. z.rings) c.in-Ok-reopen.ensures.opened.1.0 in
    let same = ap (λ l. length l) c.as_slice-in-Ok-reopen.ensures.value in let as_many = length-map c.in-Ok.rests.items (λ f. f.items) in
    omega arith

pub plain-behind-requires-clause-in_range : goal.plain-behind-requires-clause-in_range
plain-behind-requires-clause-in_range g c =
    let a = c.args in let files = map (λ f. f.items) a.files.now in let o = c.requires.aside.0 in let h = c.requires.aside.1 in
    let rests = map (λ f. f.items) c.in-Ok.rests.items in
    let are = subst (λ (l : List ℕ). AreRests files l rests) c.as_slice.ensures.value c.in-Ok.ensures in
    subst (λ l. AreInRange (map (λ f. f.items) l)) (sym c.as_slice-in-Ok-reopen.ensures.value) (in_range o a.lay a.frames files a.closed a.done.items a.counts.items h rests are c.requires.in_range)

pub plain-behind-requires-clause-numbers : goal.plain-behind-requires-clause-numbers
plain-behind-requires-clause-numbers g c =
    let a = c.args in let files = map (λ f. f.items) a.files.now in let o = c.requires.aside.0 in let h = c.requires.aside.1 in
    let rests = map (λ f. f.items) c.in-Ok.rests.items in
    let are = subst (λ (l : List ℕ). AreRests files l rests) c.as_slice.ensures.value c.in-Ok.ensures in
    subst (λ l. HasNumberEach c.in-Ok-reopen.opened.number (map (λ f. f.items) l)) (sym c.as_slice-in-Ok-reopen.ensures.value)
    (numbers o a.lay a.frames files a.closed a.done.items a.counts.items h rests are c.in-Ok-reopen.opened.number (c.in-Ok-reopen.ensures.opened.1.1 ∙ c.read_home.ensures.number))

pub unite-requires : goal.unite-requires
unite-requires g c =
    let a = c.args in let files = map (λ f. f.items) a.files.now in let o = c.requires.aside.0 in let h = c.requires.aside.1 in
    let rests = map (λ f. f.items) c.as_slice-in-Ok-reopen.result.now in
    let are : AreRests files a.counts.items rests = subst (λ (l : List ℕ). AreRests files l rests) c.as_slice.ensures.value (subst (λ l. AreRests files c.as_slice.result.now (map (λ f. f.items) l)) (sym c.as_slice-in-Ok-reopen.ensures.value) c.in-Ok.ensures) in
    let home = c.in-Ok-read_home.ensures.ok o h.view h.ended in
    let r = c.in-Ok-reopen in let ran = c.plain-behind in let does = ran.ensures in let sight = g.M.Medium.sight in
    let few = fits o a.lay a.frames files a.closed a.done.items a.counts.items h rests are c.read_home.new.closed c.read_home.ensures.number home r.opened r.ensures.opened r.ensures.medium r.ensures.holds
    ran.result.done.items ran.result.end ran.result.last (sight ran.result.medium) does.replies does.syncs does.moments does.end in
    let counted = all_counted o a.lay a.frames files a.closed a.done.items a.counts.items h rests are c.read_home.new.closed c.read_home.ensures.number home r.opened r.ensures.opened r.ensures.medium r.ensures.holds
    ran.result.done.items ran.result.end ran.result.last (sight ran.result.medium) does.replies does.syncs does.moments does.end (small_files a.files.now) in
    let count = ap (λ l. request_count (map (λ f. f.items) l)) (c.as_slice-in-Ok-reopen.ensures.value ∙ sym c.as_slice-2.ensures.value) in
    let long = ap (λ (l : List Done). length l) c.as_slice-in-Ok-reopen-2.ensures.value in
    let room = c.in-Ok-reserve.ensures.room in record {
      room = omega arith;
      counted = subst (λ (l : List ℕ). All (IsCounted l) c.as_slice-in-Ok-reopen-2.result.now) (sym c.as_slice-in-Ok-reopen-3.ensures.value)
          (subst (λ (l : List Done). All (IsCounted a.counts.items) l) (sym c.as_slice-in-Ok-reopen-2.ensures.value) counted);
    }

pub returns-in-Ok-reopen : goal.returns-in-Ok-reopen
returns-in-Ok-reopen g c =
    let a = c.args in let files = map (λ f. f.items) a.files.now in
    let rests = map (λ f. f.items) c.as_slice-in-Ok-reopen.result.now in
    let are : AreRests files a.counts.items rests = subst (λ (l : List ℕ). AreRests files l rests) c.as_slice.ensures.value (subst (λ l. AreRests files c.as_slice.result.now (map (λ f. f.items) l)) (sym c.as_slice-in-Ok-reopen.ensures.value) c.in-Ok.ensures) in
    let r = c.in-Ok-reopen in let ran = c.plain-behind in let does = ran.ensures in let sight = g.M.Medium.sight in
    let them : List Done → List ℕ → List Done = λ l n. a.done.items ++ map (shifted (slice_index n)) l in
    let all : c.reserve.new.done.items ++ map (shifted (slice_index c.as_slice-in-Ok-reopen-3.result.now)) c.as_slice-in-Ok-reopen-2.result.now ≡ them ran.result.done.items a.counts.items =
    ap (λ (l : List Done). l ++ map (shifted (slice_index c.as_slice-in-Ok-reopen-3.result.now)) c.as_slice-in-Ok-reopen-2.result.now) c.reserve.ensures.items
    ∙ ap (λ (l : List Done). them l c.as_slice-in-Ok-reopen-3.result.now) c.as_slice-in-Ok-reopen-2.ensures.value ∙ ap (λ (n : List ℕ). them ran.result.done.items n) c.as_slice-in-Ok-reopen-3.ensures.value in
    let same = subst (λ (l : List Done). IsPermutation l c.unite.new.done.items) all c.unite.ensures.same in
    let sorted = subst (λ (l : List Done). AllPairs StandApart l → AllPairs PrecedesInFiles c.unite.new.done.items) all c.unite.ensures.sorted in record {
      ran = λ o h.
          ran_all o a.lay a.frames files a.closed a.done.items a.counts.items h rests are c.read_home.new.closed c.read_home.ensures.number (c.in-Ok-read_home.ensures.ok o h.view h.ended) r.opened r.ensures.opened r.ensures.medium r.ensures.holds
          ran.result.done.items ran.result.end ran.result.last (sight ran.result.medium) does.replies does.syncs does.moments does.end c.unite.new.done.items same sorted;
      first =
          let o = c.requires.aside.0 in let h = c.requires.aside.1 in
          first_of_all o a.lay a.frames files a.closed a.done.items a.counts.items h rests are c.read_home.new.closed c.read_home.ensures.number (c.in-Ok-read_home.ensures.ok o h.view h.ended) r.opened r.ensures.opened r.ensures.medium r.ensures.holds
          ran.result.done.items ran.result.end ran.result.last (sight ran.result.medium) does.replies does.syncs does.moments does.end c.unite.new.done.items same sorted;
    }

pub returns-clause-ran : goal.returns-clause-ran
returns-clause-ran g c = λ o h.
    let sight = g.M.Medium.sight in let a = c.args in let files = map (λ f. f.items) a.files.now in let new = c.read_home.new.closed in
    let home = c.in-Ok-read_home.ensures.ok o h.view h.ended in
    ran_same (start_of sight o a.lay) files a.done.items c.reserve.new.done.items NoMemory NoMemory new.number new.number (sight (medium_of new.back)) (sight c.in-Err.medium)
    c.reserve.ensures.items refl refl (ap sight c.in-Err.ensures.medium)
    (no_memory o a.lay a.frames files a.closed a.done.items a.counts.items h new.number c.read_home.ensures.number new.back home.ended)

pub returns-in_default-clause-first : goal.returns-in_default-clause-first
returns-in_default-clause-first g c = none_behind c.args.done.items c.end_with.result.done.items c.end_with.ensures.done

pub returns-in_default-reserve-clause-first : goal.returns-in_default-reserve-clause-first
returns-in_default-reserve-clause-first g c = let e = c.end_with-in_default-reserve in none_behind c.args.done.items e.result.done.items (e.ensures.done ∙ c.reserve.ensures.items)

pub returns-in_default-read_home-clause-first : goal.returns-in_default-read_home-clause-first
returns-in_default-read_home-clause-first g c = let e = c.end_with-in_default-read_home in none_behind c.args.done.items e.result.done.items (e.ensures.done ∙ c.reserve.ensures.items)

pub returns-clause-first : goal.returns-clause-first
returns-clause-first g c = none_behind c.args.done.items c.reserve.new.done.items c.reserve.ensures.items
