use Rattle.std.proofs.Common.{refl, rules}
use Rattle.run.specs.Stores.{reply_of, answer_of}
use Rattle.script.specs.declared.call.Outcome.TheVariants as outcome
use Rattle.script.specs.Scripts.{SaysDone, SaysLink, SaysWaiting, SaysGone, booking, stepping, asking_link, asking_entrance, asking_exit}
use Rattle.script.proofs.Making.{said, called}
use Rattle.script.proofs.one.make_call.Goals as goal

pub returns-in-Book-clause-called : goal.returns-in-Book-clause-called
returns-in-Book-clause-called g c =
    let a = c.map.result in
    let q = reply_of c.book.result in
    let s : SaysDone a q = said SaysDone reply_of (λ u. outcome.Done) (λ x. refl) (λ e. refl) c.book.result a (search rules) in
    called _ _ a _ c.in-Book.is (booking _ _ _ a q s refl refl) c.book.ensures.carries

pub returns-in-Step-clause-called : goal.returns-in-Step-clause-called
returns-in-Step-clause-called g c =
    let a = c.map-in-Step.result in
    let q = reply_of c.step.result in
    let s : SaysDone a q = said SaysDone reply_of (λ u. outcome.Done) (λ x. refl) (λ e. refl) c.step.result a (search rules) in
    called _ _ a _ c.in-Step.is (stepping a q s) c.step.ensures.carries

pub returns-in-Link-clause-called : goal.returns-in-Link-clause-called
returns-in-Link-clause-called g c =
    let a = c.map-in-Link.result in
    let q = answer_of c.ask_link.result in
    let s : SaysLink a q = said SaysLink answer_of outcome.Link (λ x. refl) (λ e. refl) c.ask_link.result a (search rules) in
    called _ _ a _ c.in-Link.is (asking_link _ a q s refl refl) c.ask_link.ensures.carries

pub returns-in-Entrance-clause-called : goal.returns-in-Entrance-clause-called
returns-in-Entrance-clause-called g c =
    let a = c.map-in-Entrance.result in
    let q = answer_of c.ask_entrance.result in
    let s : SaysWaiting a q = said SaysWaiting answer_of outcome.Waiting (λ x. refl) (λ e. refl) c.ask_entrance.result a (search rules) in
    called _ _ a _ c.in-Entrance.is (asking_entrance _ a q s refl refl) c.ask_entrance.ensures.carries

pub returns-in-Exit-clause-called : goal.returns-in-Exit-clause-called
returns-in-Exit-clause-called g c =
    let a = c.map-in-Exit.result in
    let q = answer_of c.ask_exit.result in
    let s : SaysGone a q = said SaysGone answer_of outcome.Gone (λ x. refl) (λ e. refl) c.ask_exit.result a (search rules) in
    called _ _ a _ c.in-Exit.is (asking_exit _ a q s refl refl) c.ask_exit.ensures.carries
