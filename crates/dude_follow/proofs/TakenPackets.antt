-- What a follower does with a packet, by what the rule says.
use Rattle.std.proofs.Common.{◌≡◌, ℕ, ◌+◌, ◌≤◌, Bool, false, true, List, [], ◌∷◌, All, filter, nat_lt, is_ok, Result, Ok, Err, append-nil, refl, sym, ap, ◌∙◌, subst}
use Rattle.std.specs.Prelude.{IfOk, OnOk}
use Rattle.std.proofs.lemmas.List.Elements.{All-filter}
use Rattle.dude_base.specs.declared.limits.TheConstants.{MAX_NUMBER}
use Rattle.dude_base.specs.declared.sizes.Sizes.{Sizes}
use Rattle.dude_base.specs.Image.{image_words}
use Rattle.dude_base.specs.Records.{RedoBundle, first_of}
use Rattle.dude_base.specs.Sizes.{IsAccepted}
use Rattle.pmem_trait.specs.declared.medium.Medium.{Ghosts}
use Rattle.pmem_trait.specs.Sights.{CallsMade, Sight, SomeCalls, state_now}
use Rattle.pmem_trait.proofs.Laws.{every_moment_here}
use Rattle.pmem_trait.proofs.Runs.{ran_here}
use Rattle.redo_record.specs.Recovery.{Recovers}
use Rattle.back_store.proofs.EmptyLanes.{none_waiting}
use Rattle.back_store.specs.Back.{BackState, idle}
use Rattle.back_store.proofs.KeptLogs.{images_here}
use Rattle.dude_recover.specs.Opened.{HoldsOpened}
use Rattle.log_numbered.proofs.HeldArrays.{array_alone}
use Rattle.log_numbered.proofs.LedLogs.{leads_idle}
use Rattle.dude_follow.specs.declared.follow_fault.FollowFault.{FollowFault}
use Rattle.dude_follow.specs.declared.follower.Follower.{Follower}
use Rattle.dude_follow.specs.declared.replica.Replica.{Replica}
use Rattle.dude_follow.specs.declared.taken.Taken.{Taken}
use Rattle.dude_follow.specs.declared.taken.Taken.TheVariants.{Applied}
use Rattle.dude_follow.specs.Applying.{Applies, AppliedBy, GoesOn, HoldsArray, IsAtRest, RecoversAlong, RecoversThrough}
use Rattle.dude_follow.specs.Chain.{AppliesChain}
use Rattle.dude_follow.specs.Follower.{TakesPacket, follower_back, follower_room, follower_sight, follower_sizes, follower_state}
use Rattle.dude_follow.specs.Packets.{IsPacket}
use Rattle.dude_follow.specs.ReorderBuffer.{state_at}
use Rattle.dude_follow.specs.Replica.{replica_back, replica_medium, replica_sight}
use Rattle.dude_follow.specs.Taking.{FollowerState, IsNew, Takes}
use Rattle.dude_follow.proofs.Applying.{rest_leads}

-- what was judged at the replica's number is judged of the follower
pub at_number : {M : Type 0} {ghosts : Ghosts M} (P : FollowerState → Type 0) (f : Follower M ghosts) (number : ℕ) → number ≡ (follower_state f).number → P (state_at number f.buffer) → P (follower_state f)
at_number P f number same is = subst (λ (n : ℕ). P (state_at n f.buffer)) same is

pub state_with : (number : ℕ) (old new : List RedoBundle) → old ≡ new → (let x : FollowerState = record { number = number; kept = old } in x) ≡ record { number = number; kept = new }
state_with number old new same = ap (λ (kept : List RedoBundle). let x : FollowerState = record { number = number; kept = kept } in x) same

-- what is still kept are packets of these sizes
pub still_packets : (s z : Sizes) (number : ℕ) (kept new : List RedoBundle) → z ≡ s → new ≡ filter (λ c. nat_lt number c.last) kept → All (IsPacket s) kept → All (IsPacket z) new
still_packets s z number kept new sizes is packets =
    subst (λ (x : Sizes). All (IsPacket x) new) (sym sizes)
    (subst (λ (bs : List RedoBundle). All (IsPacket s) bs) (sym is) (All-filter (λ (c : RedoBundle). nat_lt number c.last) (IsPacket s) kept packets))

-- ---- nothing is applied

pub applies_none : (v : BackState) (s : Sight) → Applies [] v s v s
applies_none v s = record {
  lead = refl;
  overwrites = λ before array is. is;
  told = λ visible. sym (append-nil (state_now s).told);
  calls = ([], AppliedBy.none, CallsMade.none);
}

pub moments_none : (v : BackState) (s : Sight) → IsAtRest v → image_words v.log.sizes ≤ s.len → RecoversThrough [] v s s
moments_none v s rests room before array is =
    let from = v.log.reproduced in
    every_moment_here (RecoversAlong v.log.sizes from [] array before) (λ visible. record {
      each = λ image at.
          let here = (images_here before from v s rests.lawful room rests.alive is.keeps (rest_leads v rests).end visible).each image at in
          let alone = array_alone rests.none_waits here.is_array in
          record {
            front = [];
            rest = [];
            split = refl;
            number = here.number;
            lead = sym alone.0;
            recovered = subst (Recovers image here.number) (alone.1 ∙ is.home visible) here.recovered;
            same_sizes = here.same_sizes;
            floor = here.floor;
          };
    })

module _ {M : Type 0} {ghosts : Ghosts M} (b : RedoBundle) (f g : Follower M ghosts) where
  pub takes_quietly : (answer : Taken) → g.replica ≡ f.replica → IsAtRest (follower_back f) → image_words (follower_sizes f) ≤ (follower_sight f).len
      → Takes (follower_room f) (follower_state f) b answer [] (follower_state g) → TakesPacket b (Ok answer) f g
  takes_quietly answer same rests room takes = record {
    answer = answer;
    packets = [];
    after = follower_state g;
    takes = takes;
    ok = (refl, refl);
    applies = subst (λ (r : Replica M ghosts). Applies [] (follower_back f) (follower_sight f) (replica_back r) (replica_sight r)) (sym same) (applies_none (follower_back f) (follower_sight f));
    ran = subst (λ (r : Replica M ghosts). SomeCalls true (follower_sight f) (replica_sight r)) (sym same) (ran_here (follower_sight f));
    alive = subst (λ (r : Replica M ghosts). (replica_back r).dead ≡ false) (sym same) rests.alive;
    rests = subst (λ (r : Replica M ghosts). IsAtRest (replica_back r)) (sym same) rests;
    quiet = λ none. (refl, record { back = ap (λ (r : Replica M ghosts). replica_back r) same; medium = ap (λ (r : Replica M ghosts). replica_medium r) same });
    stopped = tt;
    moments = subst (λ (r : Replica M ghosts). RecoversThrough [] (follower_back f) (follower_sight f) (replica_sight r)) (sym same) (moments_none (follower_back f) (follower_sight f) rests room);
  }

  -- ---- the packet and those that follow it are applied

  reached : ℕ → FollowerState
  reached number = record { number = number; kept = filter (λ c. nat_lt number c.last) (follower_state f).kept }

  takes_chain : {ok : Bool} → IsNew (follower_state f) b → first_of b ≡ (follower_state f).number + 1 → (chain : AppliesChain (follower_state f).kept b ok (follower_back f) (follower_sight f) (follower_back g) (follower_sight g))
      → Takes (follower_room f) (follower_state f) b (Applied chain.end) (b ∷ chain.more) (reached chain.end)
  unfolding reached
  takes_chain new first chain = (
    new,
    first,
    record { more = chain.more; records_are = refl; from_kept = chain.from_kept; lead = chain.lead; none_next = chain.none_next; kept = refl },
    refl,
  )

  pub takes_next : (result : Result Taken FollowFault) → IsNew (follower_state f) b → first_of b ≡ (follower_state f).number + 1
      → GoesOn (is_ok result) (follower_back f) (follower_sight f) (follower_back g) (follower_sight g)
      → AppliesChain (follower_state f).kept b (is_ok result) (follower_back f) (follower_sight f) (follower_back g) (follower_sight g)
      → (follower_state g).kept ≡ filter (λ c. nat_lt (follower_state g).number c.last) (follower_state f).kept
      → IfOk result (λ taken. taken ≡ Applied (follower_state g).number) → OnOk result (IsAtRest (follower_back g)) → TakesPacket b result f g
  unfolding reached
  takes_next (Ok taken) new first goes chain kept is rests = record {
    answer = Applied chain.end;
    packets = b ∷ chain.more;
    after = reached chain.end;
    takes = takes_chain new first chain;
    ok = (is ∙ ap (λ n. Applied n) (chain.number refl), state_with (follower_state g).number (follower_state g).kept (filter (λ c. nat_lt (follower_state g).number c.last) (follower_state f).kept) kept ∙ ap reached (chain.number refl));
    applies = chain.whole refl;
    ran = goes.ran;
    alive = goes.dead;
    rests = rests;
    quiet = λ none. absurd (cc);
    stopped = tt;
    moments = chain.moments;
  }
  takes_next (Err fault) new first goes chain kept is rests = record {
    answer = Applied chain.end;
    packets = b ∷ chain.more;
    after = reached chain.end;
    takes = takes_chain new first chain;
    ok = tt;
    applies = tt;
    ran = goes.ran;
    alive = tt;
    rests = tt;
    quiet = λ none. absurd (cc);
    stopped = record { stops = chain.part refl; kept = kept };
    moments = chain.moments;
  }

-- ---- the start

pub rests_idle : (s : Sizes) (number : ℕ) → IsAccepted s → number ≤ MAX_NUMBER → IsAtRest (idle s number)
rests_idle s number accepted small = record { alive = refl; lawful = (leads_idle s number accepted small).lawful; durable = refl; none_waits = none_waiting s }

-- the medium of an opened image holds its words
pub opened_holds : (before : ℕ) (sizes : Sizes) (number : ℕ) (words : List ℕ) (v : BackState) (s : Sight) → v ≡ idle sizes number → HoldsOpened before sizes number words s → HoldsArray before v words s
opened_holds before sizes number words v s same opened = subst (λ w. HoldsArray before w words s) (sym same) (record { keeps = opened.keeps; home = opened.home })
