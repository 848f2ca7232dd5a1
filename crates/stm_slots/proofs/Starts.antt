-- A back on which nothing waits is known by lists without records.
use Rattle.std.proofs.Common.{◌≡◌, ℕ, zero, suc, ◌<◌, ◌≤◌, Bool, not, true, false, IsTrue, List, [], length, get_or, refl, sym, ap, ◌∙◌, subst, arith}
use Rattle.std.specs.List.{Contains}
use Rattle.std.proofs.lemmas.Bool.{false≢true}
use Rattle.std.proofs.lemmas.List.Elements.{All-nil}
use Rattle.dude_base.specs.Image.{image_words}
use Rattle.dude_base.specs.Records.{RedoRecord}
use Rattle.pmem_trait.specs.Sights.{SomeCalls, state_now, CallsMade.none}
use Rattle.pmem_trait.proofs.Laws.{every_moment_here}
use Rattle.redo_record.specs.Waiting.{Waiting}
use Rattle.redo_record.proofs.WaitingRecords.{waiting_law}
use Rattle.back_store.specs.Backlog.{IsLawful}
use Rattle.back_store.specs.Back.{BackState, IsEnd, home_now, waiting_now}
use Rattle.back_store.specs.Images.{HoldsStore}
use Rattle.back_store.specs.Operations.{Operates, OperatesLog.rests}
use Rattle.back_store.specs.Told.{WereTold}
use Rattle.back_store.proofs.KeptLogs.{images_here}
use Rattle.back_store.proofs.ToldNumbers.{tells_none}
use Rattle.core_events.specs.Entries.{value}
use Rattle.stm_slots.specs.Records.{HasValues, writes_in}
use Rattle.stm_slots.specs.KnownLists.{LawfulLists, lists}
use Rattle.stm_slots.specs.Known.{Known, RecoversIn, Since, told_before}
use Rattle.stm_slots.proofs.Images.{recovers_in}

-- where nothing was written the values are the opening ones
opening_value : (opening : List ℕ) (n i : ℕ) → value opening (writes_in []) n i ≡ get_or opening i 0
opening_value opening zero i = refl
opening_value opening (suc n) i = opening_value opening n i

module _ (b : Since) (v : BackState) (law : IsLawful v.log) (alive : v.dead ≡ false) (idle : (w : Waiting) → Contains (waiting_now v) w → ⊥) (durable : v.log.durable ≡ b.first) (reproduced : v.log.reproduced ≡ b.first) (state : v ≡ b.state) where
  lawful_start : LawfulLists b.first (lists v [])
  lawful_start = record {
    log = law;
    once = tt;
    over = All-nil (λ (r : RedoRecord). b.first < r.number);
    from = omega arith;
    live = λ lives. record {
      reached = λ m lt le. absurd (omega arith);
      waits = λ w among. absurd (idle w among);
      logged = λ n has lt. absurd (false≢true has);
    };
  }

  module _ (room : image_words v.log.sizes ≤ b.start.len) (keeps : HoldsStore (told_before b) v b.start) (home : IsTrue b.start.is_visible → home_now v.log.sizes b.start ≡ b.opening) where
    values : IsTrue b.start.is_visible → HasValues b.opening (writes_in []) v.log.reproduced (home_now v.log.sizes b.start)
    values seen = record { size = ap length (home seen); words = λ i lt. ap (λ (l : List ℕ). get_or l i 0) (home seen) ∙ sym (opening_value b.opening v.log.reproduced i) }

    end : (n : ℕ) × IsEnd v n
    end = waiting_law.some_end (waiting_now v) v.log.reproduced

    tells : (d n : ℕ) (told : List ℕ) → n ≡ d → WereTold true d n told told
    tells d n told same = subst (λ (m : ℕ). WereTold true d m told told) (sym same) (tells_none true d d told told refl refl)

    pub known_start : Known b (lists v []) b.start
    known_start = record {
      lawful = lawful_start;
      is = record {
        room = room;
        moments = every_moment_here (RecoversIn b [] v.log.sizes) (λ seen. record {
          each = λ image i. recovers_in b (lists v []) lawful_start alive (home_now v.log.sizes b.start) (values seen) end.0 end.0 (state_now b.start).told image
              ((images_here (told_before b) end.0 v b.start law room alive keeps end.1 seen).each image i);
        });
        ran = subst (λ (d : Bool). SomeCalls (not d) b.start b.start) (sym alive) ([], none);
        operates = λ lives. subst (λ (u : BackState). Operates u v b.start b.start) state ([], rests, none);
        keeps = keeps;
        home = λ lives seen. values seen;
        tells = λ seen. subst (λ (d : Bool). WereTold (not d) b.first v.log.durable (state_now b.start).told (state_now b.start).told) (sym alive) (tells b.first v.log.durable (state_now b.start).told durable);
      };
    }
