-- Lists and numbers
pub mod Lists
pub mod Numbers
-- One turn
pub mod Fills
pub mod Queue
pub mod Serve
pub mod Eligibility
pub mod TurnRight
pub mod TurnUnique
-- Tables and checks
pub mod Lawful
pub mod Checked
pub mod Lessened
pub mod Outcomes
