-- What the calls give.
use Rattle.std.proofs.Common.{◌≡◌, ◌∙◌, ℕ, ◌+◌, ◌*◌, List, [], ◌∷◌, ◌++◌, get_or, set, drop, refl, sym, ap, subst, Bool, true, false}
use Rattle.std.specs.Prelude.{map, Option, Some, None, Ok, Err, if◌then◌else◌, not, ◌==◌, ◌&&◌, ◌||◌, slice_get}
use Rattle.std.specs.List.{find, filter, position, list_any}
use Rattle.std.specs.Option.{is_some}
use Rattle.uh_base.specs.declared.guid.Guid.{Guid}
use Rattle.handle_db.specs.Database.{Handle, Database, handle_in, has_guid, at_first, left_with, with_protocols, all_but, fresh}
use Rattle.handle_db.specs.declared.refusal.HandleRefusal.TheVariants as handle
use Rattle.handle_db.specs.Calls.{Done as HandleDone, is_full, with_handle, installed_on, installation as handle_installation, has_interface, has_interface_on, has_interface_in, removal, removed_from, replacement, replaced_on}
use Rattle.protocol_db.proofs.ListLemmas.{find_none, find_some, unchanged, change_some}
use Rattle.protocol_db.specs.declared.refusal.ProtocolRefusal.TheVariants.{AccessDenied, Full}
use Rattle.protocol_db.specs.Opening.{is_held}
use Rattle.protocol_db.specs.Registrations.{Registration, Protocols, is_numbered, is_for, is_for_any, pended, silenced, events_for, notified, all_notified, all_silenced, first_pending, first_taken}
use Rattle.protocol_db.specs.Calls.{target_in, installation, uninstalled, uninstallation, reinstalled, reinstallation}

-- the handle on which an install is
target_by : (d : Database) (guid : Guid) (interface target : ℕ) (done : HandleDone) (full : Bool) → (if full then None else Some (16 * (d.made + 1))) ≡ Some target
    → (if full then Err handle.Full else Ok (record { handle = 16 * (d.made + 1); database = with_handle d guid interface })) ≡ Ok done → done.handle ≡ target
target_by d guid interface target done true t e = absurd (cc)
target_by d guid interface target done false t e =
    let is : record { handle = 16 * (d.made + 1); database = with_handle d guid interface } ≡ done = cc in
    let same : 16 * (d.made + 1) ≡ target = cc in
    subst (λ (it : HandleDone). it.handle ≡ target) is same

given_by : (d : Database) (n : ℕ) (guid : Guid) (interface : ℕ) (done : HandleDone) (o : Option Handle) → installed_on d n guid interface o ≡ Ok done → done.handle ≡ n
given_by d n guid interface done None e = absurd (cc)
given_by d n guid interface done (Some h) e = by (list_any (has_guid guid) h.protocols) e
  where
    by : (b : Bool) → (if b then Err handle.Invalid else Ok (record { handle = n; database = with_protocols d n (h.protocols ++ fresh guid interface ∷ []) })) ≡ Ok done → done.handle ≡ n
    by true k = absurd (cc)
    by false k = let is : record { handle = n; database = with_protocols d n (h.protocols ++ fresh guid interface ∷ []) } ≡ done = cc in subst (λ (it : HandleDone). it.handle ≡ n) is refl

pub target_is : (d : Database) (number : Option ℕ) (guid : Guid) (interface target : ℕ) (done : HandleDone) → target_in d number ≡ Some target → handle_installation d number guid interface ≡ Ok done → done.handle ≡ target
unfolding handle_installation
target_is d None guid interface target done t e = target_by d guid interface target done (is_full d) t e
target_is d (Some n) guid interface target done t e = let same : n ≡ target = cc in given_by d n guid interface done (handle_in d n) e ∙ same

full_by : (n : ℕ) (done : HandleDone) (full : Bool) → (if full then None else Some n) ≡ None → (if full then Err handle.Full else Ok done) ≡ Err handle.Full
full_by n done true t = refl
full_by n done false t = absurd (cc)

pub full_is : (d : Database) (number : Option ℕ) (guid : Guid) (interface : ℕ) → target_in d number ≡ None → handle_installation d number guid interface ≡ Err handle.Full
unfolding handle_installation
full_is d None guid interface t = full_by (16 * (d.made + 1)) (record { handle = 16 * (d.made + 1); database = with_handle d guid interface }) (is_full d) t
full_is d (Some n) guid interface t = absurd (cc)

pub install_full : (p : Protocols) (number : Option ℕ) (guid : Guid) (interface : ℕ) (r : Option ℕ) → r ≡ target_in p.handles number → r ≡ None → installation p number guid interface ≡ Err Full
unfolding installation
install_full p number guid interface r is none = rw (full_is p.handles number guid interface (sym is ∙ none)) refl

-- one pair alone
pub one_pair : (guid : Guid) (interface n : ℕ) (rs : List Registration) → all_notified rs (is_for_any ((guid, interface) ∷ [])) n ≡ all_notified rs (is_for guid) n
unfolding all_notified
one_pair guid interface n [] = refl
one_pair guid interface n (r ∷ rs) = by (is_for guid r) (one_pair guid interface n rs)
  where
    by : (b : Bool) → map (notified (is_for_any ((guid, interface) ∷ [])) n) rs ≡ map (notified (is_for guid) n) rs
        → (if b || false then record r { pending = pended n r.pending } else r) ∷ map (notified (is_for_any ((guid, interface) ∷ [])) n) rs ≡ (if b then record r { pending = pended n r.pending } else r) ∷ map (notified (is_for guid) n) rs
    by true more = ap (λ qs. record r { pending = pended n r.pending } ∷ qs) more
    by false more = ap (λ qs. r ∷ qs) more

put_one : (p : Protocols) (hs : Database) (before after : List Registration) (made : ℕ) (guid : Guid) (interface n : ℕ) → record { handles = hs; registrations = before; made = made } ≡ p
    → after ≡ all_notified before (is_for_any ((guid, interface) ∷ [])) n → after ≡ all_notified p.registrations (is_for guid) n
put_one p hs before after made guid interface n e put = put ∙ one_pair guid interface n before ∙ ap (λ (q : Protocols). all_notified q.registrations (is_for guid) n) e

pub install_here : (p : Protocols) (hs d : Database) (before after : List Registration) (made : ℕ) (number : Option ℕ) (guid : Guid) (interface target h : ℕ) (r : Option ℕ) (events : List ℕ) → record { handles = hs; registrations = before; made = made } ≡ p
    → handle_installation hs number guid interface ≡ Ok (record { handle = h; database = d }) → r ≡ target_in p.handles number → r ≡ Some target → events ≡ events_for p.registrations guid → after ≡ all_notified before (is_for_any ((guid, interface) ∷ [])) target
    → installation p number guid interface ≡ Ok (record { answer = record { handle = h; events = events }; after = record { handles = d; registrations = after; made = made } })
unfolding installation
install_here p hs d before after made number guid interface target h r events e done is some k put =
    let there : handle_installation p.handles number guid interface ≡ Ok (record { handle = h; database = d }) = ap (λ (q : Protocols). handle_installation q.handles number guid interface) (sym e) ∙ done in
    let same : h ≡ target = target_is p.handles number guid interface target (record { handle = h; database = d }) (sym is ∙ some) there in
    let counts : made ≡ p.made = ap (λ (q : Protocols). q.made) e in
    let l = put_one p hs before after made guid interface target e put in
    rw there (rw k (rw l (rw counts (rw (← same) refl))))

-- what can be taken away
removal_by : (d : Database) (n : ℕ) (guid : Guid) (interface : ℕ) (o : Option Handle) → has_interface_on guid interface o ≡ true → (x : Database) × (removed_from d n guid interface o ≡ Ok x)
removal_by d n guid interface None e = absurd (cc)
removal_by d n guid interface (Some h) e = (left_with d n (all_but guid h.protocols), rw e refl)

removal_ok : (d : Database) (n : ℕ) (guid : Guid) (interface : ℕ) → has_interface_in d n guid interface ≡ true → (x : Database) × (removal d n guid interface ≡ Ok x)
unfolding has_interface_in removal
removal_ok d n guid interface e = removal_by d n guid interface (handle_in d n) e

has_by : (d x : Database) (n : ℕ) (guid : Guid) (interface : ℕ) (o : Option Handle) → removed_from d n guid interface o ≡ Ok x → has_interface_on guid interface o ≡ true
has_by d x n guid interface None e = absurd (cc)
has_by d x n guid interface (Some h) e = by (has_interface guid interface h) e
  where
    by : (b : Bool) → (if b then Ok (left_with d n (all_but guid h.protocols)) else Err handle.NotFound) ≡ Ok x → b ≡ true
    by true k = refl
    by false k = absurd (cc)

removal_has : (d x : Database) (n : ℕ) (guid : Guid) (interface : ℕ) → removal d n guid interface ≡ Ok x → has_interface_in d n guid interface ≡ true
unfolding has_interface_in removal
removal_has d x n guid interface e = has_by d x n guid interface (handle_in d n) e

replacement_by : (d : Database) (n : ℕ) (guid : Guid) (old new : ℕ) (o : Option Handle) → has_interface_on guid old o ≡ true → (x : Database) × (replaced_on d n guid old new o ≡ Ok x)
replacement_by d n guid old new None e = absurd (cc)
replacement_by d n guid old new (Some h) e = (with_protocols d n (all_but guid h.protocols ++ fresh guid new ∷ []), rw e refl)

replacement_ok : (d : Database) (n : ℕ) (guid : Guid) (old new : ℕ) → has_interface_in d n guid old ≡ true → (x : Database) × (replacement d n guid old new ≡ Ok x)
unfolding has_interface_in replacement
replacement_ok d n guid old new e = replacement_by d n guid old new (handle_in d n) e

had_by : (d x : Database) (n : ℕ) (guid : Guid) (old new : ℕ) (o : Option Handle) → replaced_on d n guid old new o ≡ Ok x → has_interface_on guid old o ≡ true
had_by d x n guid old new None e = absurd (cc)
had_by d x n guid old new (Some h) e = by (has_interface guid old h) e
  where
    by : (b : Bool) → (if b then Ok (with_protocols d n (all_but guid h.protocols ++ fresh guid new ∷ [])) else Err handle.NotFound) ≡ Ok x → b ≡ true
    by true k = refl
    by false k = absurd (cc)

replacement_has : (d x : Database) (n : ℕ) (guid : Guid) (old new : ℕ) → replacement d n guid old new ≡ Ok x → has_interface_in d n guid old ≡ true
unfolding has_interface_in replacement
replacement_has d x n guid old new e = had_by d x n guid old new (handle_in d n) e

both : (a b : Bool) → (a && b) ≡ true → (a ≡ true) × (b ≡ true)
both true b h = (refl, h)
both false b h = absurd (cc)

not_both : (a b : Bool) → (a && b) ≡ false → a ≡ true → b ≡ false
not_both true b h t = h
not_both false b h t = absurd (cc)

held_there : (p : Protocols) (n : ℕ) (guid : Guid) (x : Database) → is_held p.handles n guid ≡ true → uninstalled p n guid (Ok x) ≡ Err AccessDenied
held_there p n guid x h = rw h refl

held_again : (p : Protocols) (n : ℕ) (guid : Guid) (x : Database) → is_held p.handles n guid ≡ true → reinstalled p n guid (Ok x) ≡ Err AccessDenied
held_again p n guid x h = rw h refl

pub uninstall_barred : (p : Protocols) (n : ℕ) (guid : Guid) (interface : ℕ) (r : Bool) → r ≡ (has_interface_in p.handles n guid interface && is_held p.handles n guid) → r ≡ true → uninstallation p n guid interface ≡ Err AccessDenied
unfolding uninstallation
uninstall_barred p n guid interface r is t =
    let h = both (has_interface_in p.handles n guid interface) (is_held p.handles n guid) (sym is ∙ t) in
    let k = removal_ok p.handles n guid interface h.0 in
    ap (λ it. uninstalled p n guid it) k.1 ∙ held_there p n guid k.0 h.1

pub uninstall_here : (p : Protocols) (hs d : Database) (before after : List Registration) (made : ℕ) (n : ℕ) (guid : Guid) (interface : ℕ) (r : Bool) → record { handles = hs; registrations = before; made = made } ≡ p
    → removal hs n guid interface ≡ Ok d → r ≡ (has_interface_in p.handles n guid interface && is_held p.handles n guid) → r ≡ false → after ≡ all_silenced before guid n
    → uninstallation p n guid interface ≡ Ok (record { handles = d; registrations = after; made = made })
unfolding uninstallation
uninstall_here p hs d before after made n guid interface r e done is f k =
    let there : removal p.handles n guid interface ≡ Ok d = ap (λ (q : Protocols). removal q.handles n guid interface) (sym e) ∙ done in
    let free : is_held p.handles n guid ≡ false = not_both (has_interface_in p.handles n guid interface) (is_held p.handles n guid) (sym is ∙ f) (removal_has p.handles d n guid interface there) in
    let counts : made ≡ p.made = ap (λ (q : Protocols). q.made) e in
    let same : before ≡ p.registrations = ap (λ (q : Protocols). q.registrations) e in
    rw there (rw free (rw k (rw counts (rw same refl))))

pub reinstall_barred : (p : Protocols) (n : ℕ) (guid : Guid) (old new : ℕ) (r : Bool) → r ≡ (has_interface_in p.handles n guid old && is_held p.handles n guid) → r ≡ true → reinstallation p n guid old new ≡ Err AccessDenied
unfolding reinstallation
reinstall_barred p n guid old new r is t =
    let h = both (has_interface_in p.handles n guid old) (is_held p.handles n guid) (sym is ∙ t) in
    let k = replacement_ok p.handles n guid old new h.0 in
    ap (λ it. reinstalled p n guid it) k.1 ∙ held_again p n guid k.0 h.1

pub reinstall_here : (p : Protocols) (hs d : Database) (before after : List Registration) (made : ℕ) (n : ℕ) (guid : Guid) (old new : ℕ) (r : Bool) (events : List ℕ) → record { handles = hs; registrations = before; made = made } ≡ p
    → replacement hs n guid old new ≡ Ok d → r ≡ (has_interface_in p.handles n guid old && is_held p.handles n guid) → r ≡ false → events ≡ events_for p.registrations guid → after ≡ all_notified before (is_for_any ((guid, new) ∷ [])) n
    → reinstallation p n guid old new ≡ Ok (record { answer = record { handle = n; events = events }; after = record { handles = d; registrations = after; made = made } })
unfolding reinstallation
reinstall_here p hs d before after made n guid old new r events e done is f k put =
    let there : replacement p.handles n guid old new ≡ Ok d = ap (λ (q : Protocols). replacement q.handles n guid old new) (sym e) ∙ done in
    let free : is_held p.handles n guid ≡ false = not_both (has_interface_in p.handles n guid old) (is_held p.handles n guid) (sym is ∙ f) (replacement_has p.handles d n guid old new there) in
    let counts : made ≡ p.made = ap (λ (q : Protocols). q.made) e in
    let l = put_one p hs before after made guid new n e put in
    rw there (rw free (rw k (rw l (rw counts refl))))

-- a registration's notices
pub nobody : (p : Protocols) (n : ℕ) (r : Option ℕ) → r ≡ position (is_numbered n) p.registrations → r ≡ None → find (is_numbered n) p.registrations ≡ None
nobody p n r is none = find_none (is_numbered n) p.registrations (sym is ∙ none)

pub somebody : (p : Protocols) (n i : ℕ) (hs : Database) (rs : List Registration) (made : ℕ) (x : Registration) (r : Option ℕ) → record { handles = hs; registrations = rs; made = made } ≡ p → r ≡ position (is_numbered n) p.registrations → r ≡ Some i
    → x ≡ get_or rs i x → find (is_numbered n) p.registrations ≡ Some x
somebody p n i hs rs made x r e is some read =
    let same : rs ≡ p.registrations = ap (λ (q : Protocols). q.registrations) e in
    find_some (is_numbered n) p.registrations i x (sym is ∙ some) ∙ ap Some (sym (read ∙ ap (λ qs. get_or qs i x) same))

pub found_any : {X : Type 0} (test : X → Bool) (xs : List X) → is_some (find test xs) ≡ list_any test xs
found_any test [] = refl
found_any test (x ∷ xs) = by (test x) (found_any test xs)
  where
    by : (b : Bool) → is_some (find test xs) ≡ list_any test xs → is_some (if b then Some x else find test xs) ≡ (b || list_any test xs)
    by true more = refl
    by false more = more

pub none_first : (p : Protocols) (n : ℕ) (r : Option ℕ) → r ≡ position (is_numbered n) p.registrations → r ≡ None → None ≡ first_pending p n
unfolding first_pending
none_first p n r is none = rw (nobody p n r is none) refl

pub none_taken : (p : Protocols) (n : ℕ) (r : Option ℕ) → r ≡ position (is_numbered n) p.registrations → r ≡ None → p ≡ first_taken p n
unfolding first_taken
none_taken p n r is none = ap (λ rs. record p { registrations = rs }) (sym (unchanged (is_numbered n) (λ r. record r { pending = drop 1 r.pending }) p.registrations (nobody p n r is none)))

pub some_first : (p : Protocols) (n i : ℕ) (hs : Database) (rs : List Registration) (made : ℕ) (x : Registration) (r answer : Option ℕ) → record { handles = hs; registrations = rs; made = made } ≡ p → r ≡ position (is_numbered n) p.registrations → r ≡ Some i
    → x ≡ get_or rs i x → answer ≡ slice_get x.pending 0 → answer ≡ first_pending p n
unfolding first_pending
some_first p n i hs rs made x r answer e is some read gives = rw (somebody p n i hs rs made x r e is some read) gives

pub some_taken : (p : Protocols) (n i : ℕ) (hs : Database) (rs : List Registration) (made : ℕ) (x y : Registration) (r : Option ℕ) → record { handles = hs; registrations = rs; made = made } ≡ p → r ≡ position (is_numbered n) p.registrations → r ≡ Some i
    → x ≡ get_or rs i x → y ≡ record x { pending = drop 1 x.pending } → record { handles = hs; registrations = set rs i y; made = made } ≡ first_taken p n
unfolding first_taken
some_taken p n i hs rs made x y r e is some read gives =
    let same : rs ≡ p.registrations = ap (λ (q : Protocols). q.registrations) e in
    let place : position (is_numbered n) rs ≡ Some i = ap (λ qs. position (is_numbered n) qs) same ∙ sym is ∙ some in
    let step : set rs i y ≡ at_first (is_numbered n) (λ r. record r { pending = drop 1 r.pending }) rs =
    ap (λ q. set rs i q) (gives ∙ ap (λ (q : Registration). record q { pending = drop 1 q.pending }) read) ∙ sym (change_some (is_numbered n) (λ r. record r { pending = drop 1 r.pending }) rs i x place) in
    subst (λ (q : Protocols). record { handles = hs; registrations = set rs i y; made = made } ≡ record q { registrations = at_first (is_numbered n) (λ r. record r { pending = drop 1 r.pending }) q.registrations }) e (ap (λ qs. record { handles = hs; registrations = qs; made = made }) step)

-- one registration that has a handle pending no more
pub silenced_here : (guid g : Guid) (n number event : ℕ) (before after : List ℕ) (r : Registration) (b : Bool) → record { number = number; guid = g; event = event; pending = before } ≡ r → b ≡ is_for guid r → b ≡ true → after ≡ filter (λ h. not (h == n)) before
    → record { number = number; guid = g; event = event; pending = after } ≡ silenced guid n r
silenced_here guid g n number event before after r b e is t k =
    let yes : is_for guid r ≡ true = sym is ∙ t in
    rw yes (subst (λ (q : Registration). record { number = number; guid = g; event = event; pending = after } ≡ record q { pending = filter (λ h. not (h == n)) q.pending }) e (ap (λ ps. record { number = number; guid = g; event = event; pending = ps }) k))
