-- A code tells its status.
use Rattle.std.proofs.Common.{if◌then◌else◌, ◌==◌, ◌∙◌, ◌≡◌, ◌⊎◌, ℕ, Bool, ap, inl, inr, nat_eq, refl, subst, sym, true}
use Rattle.edge_ports.specs.Counts.{Counted}
use Rattle.ask_session.specs.{Console.NotRisen, declared.dialog.Ending.Ending}
use Rattle.ask_session.specs.Heard as session
use Rattle.debug_cli.specs.{Status.code_of, Status.is_console, Status.is_screen, Status.session_status, declared.status.Status.Status}
use Rattle.debug_cli.specs.declared.status.Status.TheVariants.{Console, Done, File, Memory, Screen, Session, Source, Spent, Words}

abbrev status_with : ℕ → Status
status_with n =
    if nat_eq n 0 then Done else (if nat_eq n 2 then Words else (if nat_eq n 3 then Source else (if nat_eq n 4 then File
    else (if nat_eq n 5 then Console else (if nat_eq n 6 then Screen else (if nat_eq n 7 then Memory
    else (if nat_eq n 8 then Session else Spent)))))))

status_again : (s : Status) → status_with (code_of s) ≡ s
status_again Done = refl
status_again Words = refl
status_again Source = refl
status_again File = refl
status_again Console = refl
status_again Screen = refl
status_again Memory = refl
status_again Session = refl
status_again Spent = refl

-- no two statuses have one code
pub code_is : (s wanted : Status) → code_of s ≡ code_of wanted → s ≡ wanted
code_is s wanted e = sym (status_again s) ∙ ap status_with e ∙ status_again wanted

-- one of two statuses
pub either_code : (s one other : Status) (n : ℕ) → n ≡ code_of s → (s ≡ one) ⊎ (s ≡ other) → (n ≡ code_of one) ⊎ (n ≡ code_of other)
either_code s one other n e (inl h) = inl (e ∙ ap code_of h)
either_code s one other n e (inr h) = inr (e ∙ ap code_of h)

-- what failed, by the counts of the console and of the screen
pub record Failed (s : Status) (console console' screen screen' : ℕ) : Type 0 where
  pub console_counted : Counted (is_console s) console console'
  pub screen_counted : Counted (is_screen s) screen screen'

-- an object that did not fail is not the cause
pub no_console : (s : Status) (before now : ℕ) → Counted (is_console s) before now → NotRisen before now → s ≡ Console → ⊥
no_console s before now k stayed e = stayed (subst (λ (x : Status). Counted (is_console x) before now) e k)

pub no_screen : (s : Status) (before now : ℕ) → Counted (is_screen s) before now → NotRisen before now → s ≡ Screen → ⊥
no_screen s before now k stayed e = stayed (subst (λ (x : Status). Counted (is_screen x) before now) e k)

-- the counts, by the code
console_status : (s : Status) → is_console s ≡ (code_of s == 5)
console_status Done = refl
console_status Words = refl
console_status Source = refl
console_status File = refl
console_status Console = refl
console_status Screen = refl
console_status Memory = refl
console_status Session = refl
console_status Spent = refl

screen_status : (s : Status) → is_screen s ≡ (code_of s == 6)
screen_status Done = refl
screen_status Words = refl
screen_status Source = refl
screen_status File = refl
screen_status Console = refl
screen_status Screen = refl
screen_status Memory = refl
screen_status Session = refl
screen_status Spent = refl

pub screen_code : (s : Status) → code_of s ≡ 6 → is_screen s ≡ true
screen_code s e = ap is_screen (code_is s Screen e)

pub console_counted : (s : Status) (n before now : ℕ) → n ≡ code_of s → Counted (is_console s) before now → Counted (n == 5) before now
console_counted s n before now e k = subst (λ (b : Bool). Counted b before now) (console_status s ∙ ap (λ (m : ℕ). m == 5) (sym e)) k

pub screen_counted : (s : Status) (n before now : ℕ) → n ≡ code_of s → Counted (is_screen s) before now → Counted (n == 6) before now
screen_counted s n before now e k = subst (λ (b : Bool). Counted b before now) (screen_status s ∙ ap (λ (m : ℕ). m == 6) (sym e)) k

-- the status of a session that ended so tells what failed
pub console_by_end : (e : Ending) → session.is_console e ≡ is_console (session_status e)
console_by_end Ending.Done = refl
console_by_end Ending.Console = refl
console_by_end Ending.Screen = refl
console_by_end Ending.Spent = refl
console_by_end Ending.Refused = refl
console_by_end Ending.Memory = refl

pub screen_by_end : (e : Ending) → session.is_screen e ≡ is_screen (session_status e)
screen_by_end Ending.Done = refl
screen_by_end Ending.Console = refl
screen_by_end Ending.Screen = refl
screen_by_end Ending.Spent = refl
screen_by_end Ending.Refused = refl
screen_by_end Ending.Memory = refl
