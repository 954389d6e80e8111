-- In a run, every site with a role is undecided, and so decisions stay.
use Rattle.std.proofs.Common.{◌≡◌, ℕ, ◌<◌, ◌≤◌, Bool, true, false, cond, ltb, ◌≢◌, List, length, get_or, set, replicate, Some, Ok, Err, Option, Result, refl, ◌∙◌, subst, ⊎_elim, arith}
use native.Mathlib.Decide.{ℕ_discrete}
use Rattle.std.proofs.lemmas.List.{get_or-set_same, get_or-set_other, get_or_past, get_or-replicate, set_past, length-set, length-replicate}
use Rattle.std.proofs.lemmas.Bool.{and_parts, ltb-true, cases_lt}
use Rattle.sites.specs.declared.refusal.Refusal.{Refusal}
use Rattle.sites.specs.declared.refusal.Refusal.TheVariants as refusal
use Rattle.quorum.specs.Quorums.{Quorums}
use Rattle.rules.specs.Plans.{Plan}
use Rattle.rules.specs.Calls.{Terms, going_by, after, fitting, sound, is_start, found, to_vote, to_deliver, vote_of, asked_begin, asked_advance, everyone_of, to_deliver_at, delivery_after, tally_of, receipt_of}
use Rattle.rules.specs.Counting.{counts}
use Rattle.rules.specs.Entries.{Entry, starting}
use Rattle.rules.specs.World.{fresh_row, World, no_entry, no_row, no_message, row_at, entry_at, applied, admitted, after_of, count_after}
use Rattle.rules.specs.declared.call.Call.{Call}
use Rattle.rules.specs.declared.call.Call.TheVariants as call
use Rattle.rules.specs.declared.call.Vote.{Vote}
use Rattle.rules.specs.declared.message.Message.{Message}
use Rattle.rules.specs.declared.role.Role.{Role}
use Rattle.rules.specs.declared.rows.Row.{Row}
use Rattle.laws.specs.Laws.{Agreeing}
use Rattle.laws.specs.Runs.{Run, DecidedStaysInRuns, new_world}
use Rattle.laws.specs.Runs.Run.{new, called}
use Rattle.laws.proofs.Apart.{Apart, AllApart, applied_apart}
use Rattle.laws.proofs.Held.{Held, Roomy, held_if, held_unless, held_admitted, admitted_roomy}
use Rattle.laws.proofs.Leading.{Leading, Leads, Under, KeptBy, begun_keeps, voted_keeps, received_keeps, tallied_keeps, advanced_keeps, leads_agrees}
use Rattle.laws.proofs.Moves.{at_every}
use Rattle.laws.proofs.Records.{decided_stays}

-- what every run keeps
pub record Steady (w : World) : Type 0 where
  pub known : length w.entries ≡ w.net.sites
  pub first_known : w.net.first < w.net.sites
  pub leads : (s : ℕ) → Leads s (entry_at w s) (row_at w.net s).role
  pub under : Under w.net.first (entry_at w w.net.first)
  pub apart : AllApart w

new_leads : (n s : ℕ) (e : Entry) → Leads s e (get_or (replicate n fresh_row) s no_row).role
new_leads n s e =
    ⊎_elim
    (λ (lt : s < n). rw (get_or-replicate n s fresh_row no_row lt) tt)
    (λ (past : n ≤ s). rw (get_or_past (replicate n fresh_row) s no_row (rw (length-replicate n fresh_row) past)) tt)
    (cases_lt s n)

new_steady : (k f : ℕ) (ms : List Message) → f < k → Steady (new_world k f ms)
new_steady k f ms h = record {
  known = length-replicate k (starting f);
  first_known = h;
  leads = λ s. new_leads 16 s (get_or (replicate k (starting f)) s no_entry);
  under = rw (get_or-replicate k f (starting f) no_entry h) (record { numbered = omega arith; led = λ u. refl });
  apart = λ j lt. absurd (omega arith);
}

-- the role of the site s is written, and no record but that of s
row_leads : (es es' : List Entry) (rs : List Row) (s : ℕ) (up : Bool) (r : Option Role) →
    ((t : ℕ) → t ≢ s → get_or es' t no_entry ≡ get_or es t no_entry) → Leads s (get_or es' s no_entry) r →
    ((t : ℕ) → Leads t (get_or es t no_entry) (get_or rs t no_row).role) →
    (t : ℕ) → Leads t (get_or es' t no_entry) (get_or (set rs s (record { up = up; role = r })) t no_row).role
row_leads es es' rs s up r same l all t =
    elim (ℕ_discrete t s) [
      | yes h ↦ rw h (⊎_elim
          (λ (lt : s < length rs). rw (get_or-set_same rs s (record { up = up; role = r }) no_row lt) l)
          (λ (past : length rs ≤ s). rw (set_past rs s (record { up = up; role = r }) past) (rw (get_or_past rs s no_row past) tt))
          (cases_lt s (length rs)))
      | no d ↦ rw (get_or-set_other rs s t (record { up = up; role = r }) no_row d) (rw (same t d) (all t))
    ]

applied_steady : (w : World) (p : Plan) → Steady w → p.site < w.net.sites → Roomy w p → KeptBy w.net.first p.site (entry_at w p.site) p → Steady (applied w p)
applied_steady w p st lt room k =
    let f = w.net.first in
    let inside : p.site < length w.entries = rw st.known lt in
    record {
      known = length-set w.entries p.site p.own ∙ st.known;
      first_known = st.first_known;
      leads =
          row_leads w.entries (set w.entries p.site p.own) w.net.rows.row p.site (row_at w.net p.site).up p.role
          (λ t d. get_or-set_other w.entries p.site t p.own no_entry d)
          (rw (get_or-set_same w.entries p.site p.own no_entry inside) k.leads)
          st.leads;
      under = at_every (λ e e'. Under f e → Under f e') w.entries p.site p.own (λ e u. u) k.under f st.under;
      apart = applied_apart w p room k.others st.apart;
    }

-- the step keeps all this, and its site is known
abbrev Kept : World → ℕ → Plan → Type 0
Kept w s p = (s < w.net.sites) × KeptBy w.net.first s (entry_at w s) p

kept_known : (w : World) (s : ℕ) (x : Result Plan Refusal) → s < w.net.sites → Held (KeptBy w.net.first s (entry_at w s)) x → Held (Kept w s) x
kept_known w s (Ok p) lt k = (lt, k)
kept_known w s (Err r) lt k = tt

plan_steady : (s : ℕ) (w : World) (x : Result Plan Refusal) → Steady w → Held (Roomy w) x → Held (Kept w s) x → Steady (after_of w x)
plan_steady s w (Ok p) st room k =
    subst (λ t. Kept w t p → Steady (applied w p)) k.1.own_site (λ j. applied_steady w p st j.0 room j.1) k
plan_steady s w (Err r) st room k = st

admitted_steady : (s l : ℕ) (w : World) (x : Result Plan Refusal) → Steady w → Held (Kept w s) x → Steady (after_of w (admitted l w x))
admitted_steady s l w x st k =
    plan_steady s w (admitted l w x) st (admitted_roomy l w x) (held_admitted (Kept w s) l w x k)

begin_kept : (t : Terms) (w : World) (v : Vote) → Steady w → Held (Kept w w.net.first) (asked_begin t w v)
begin_kept t w v st =
    let s = w.net.first in
    let K = Kept w s in
    held_if K (fitting t w) _ refusal.Mismatch (λ a.
    held_if K (row_at w.net s).up _ refusal.WrongPower (λ b.
    kept_known w s _ st.first_known
    (begun_keeps v s (everyone_of w) (entry_at w s) (row_at w.net s).role st.under (st.leads s))))

advance_kept : (t : Terms) (w : World) (s : ℕ) → Steady w → Held (Kept w s) (asked_advance t w s)
advance_kept t w s st =
    held_if (Kept w s) (fitting t w) _ refusal.Mismatch (λ a.
    held_if (Kept w s) (ltb s w.net.sites) _ refusal.UnknownSite (λ b.
    held_if (Kept w s) (row_at w.net s).up _ refusal.WrongPower (λ u.
    kept_known w s _ (ltb-true s w.net.sites b)
    (advanced_keeps w.net.first t.quorums (everyone_of w) s (entry_at w s) (row_at w.net s).role (st.leads s)))))

-- a message that is found goes to a known site, which did not send it
abbrev Fair : World → Message → Type 0
Fair w m = (m.receiver < w.net.sites) × Apart m

found_fair : (t : Terms) (w : World) (k : ℕ) → Steady w → Held (Fair w) (found t w k)
found_fair t w k st =
    let m = get_or w.messages k no_message in
    held_if (Fair w) (fitting t w) _ refusal.Mismatch (λ a.
    held_if (Fair w) (ltb k w.net.sent) _ refusal.NoMessage (λ b.
    held_if (Fair w) (sound w m) _ refusal.NoMessage (λ s.
    let rest = (and_parts (ltb m.sender w.net.sites) _ s).1 in (
      ltb-true m.receiver w.net.sites (and_parts (ltb m.receiver w.net.sites) _ rest).0,
      st.apart k (ltb-true k w.net.sent b),
    ))))

to_vote_fair : (w : World) (x : Result Message Refusal) → Held (Fair w) x → Held (Fair w) (to_vote w x)
to_vote_fair w (Ok m) h =
    held_if (Fair w) (is_start m.kind) _ refusal.WrongKind (λ a.
    held_if (Fair w) (row_at w.net m.receiver).up (Ok m) refusal.WrongPower (λ u. h))
to_vote_fair w (Err r) h = tt

to_deliver_fair : (w : World) (x : Result Message Refusal) → Held (Fair w) x → Held (Fair w) (to_deliver w x)
to_deliver_fair w (Ok m) h =
    held_unless (Fair w) (is_start m.kind) _ refusal.WrongKind (λ a.
    held_if (Fair w) (row_at w.net m.receiver).up (Ok m) refusal.WrongPower (λ u. h))
to_deliver_fair w (Err r) h = tt

vote_steady : (l : ℕ) (w : World) (v : Vote) (x : Result Message Refusal) → Steady w → Held (Fair w) x → Steady (after_of w (admitted l w (vote_of w v x)))
vote_steady l w v (Ok m) st h =
    let s = m.receiver in
    admitted_steady s l w (vote_of w v (Ok m)) st
    (kept_known w s _ h.0 (voted_keeps w.net.first v m (entry_at w s) (row_at w.net s).role h.1 (st.leads s)))
vote_steady l w v (Err r) st h = st

count_steady : (w : World) (s : ℕ) (x : Result Role Refusal) → Steady w → Held (λ r. Leading s (entry_at w s)) x → Steady (count_after w s x)
count_steady w s (Ok r) st h = record {
  known = st.known;
  first_known = st.first_known;
  leads = row_leads w.entries w.entries w.net.rows.row s (row_at w.net s).up (Some r) (λ t d. refl) h st.leads;
  under = st.under;
  apart = st.apart;
}
count_steady w s (Err r) st h = st

either_steady : (b : Bool) (x y : World) → Steady x → Steady y → Steady (cond b x y)
either_steady true x y h k = h
either_steady false x y h k = k

delivery_steady : (l : ℕ) (w : World) (x : Result Message Refusal) → Steady w → Held (Fair w) x → Steady (delivery_after l w x)
delivery_steady l w (Ok m) st h =
    let s = m.receiver in
    let e = entry_at w s in
    let r = (row_at w.net s).role in
    either_steady (counts m.kind) _ _
    (count_steady w s (tally_of w m) st (tallied_keeps s m e r (st.leads s)))
    (admitted_steady s l w (receipt_of w m) st
    (kept_known w s (receipt_of w m) h.0 (received_keeps w.net.first m.kind m e r refl h.1 (st.leads s))))
delivery_steady l w (Err r) st h = st

call_steady : (t : Terms) (w : World) (c : Call) → Steady w → Steady (after t w c)
call_steady t w (call.Begin v) st =
    admitted_steady w.net.first t.left w (asked_begin t w v) st (begin_kept t w v st)
call_steady t w (call.Vote k v) st =
    vote_steady t.left w v (to_vote w (found t w k)) st (to_vote_fair w (found t w k) (found_fair t w k st))
call_steady t w (call.Deliver k) st =
    delivery_steady t.left w (to_deliver_at t w k) st (to_deliver_fair w (found t w k) (found_fair t w k st))
call_steady t w (call.Advance s) st =
    admitted_steady s t.left w (asked_advance t w s) st (advance_kept t w s st)

run_steady : (q : Quorums) (n : ℕ) (w : World) → Run q n w → Steady w
run_steady q n w (new k f ms h b) = new_steady k f ms h
run_steady q n w (called l v c r) = call_steady (going_by q n l) v c (run_steady q n v r)

steady_agreeing : (w : World) (c : Call) → Steady w → Agreeing w c
steady_agreeing w (call.Begin v) st = tt
steady_agreeing w (call.Vote k v) st = tt
steady_agreeing w (call.Deliver k) st = tt
steady_agreeing w (call.Advance s) st = leads_agrees s (entry_at w s) (row_at w.net s).role (st.leads s)

pub decided_stays_in_runs : DecidedStaysInRuns
decided_stays_in_runs t w c r =
    decided_stays t w c (steady_agreeing w c (run_steady t.quorums t.sites w r))
