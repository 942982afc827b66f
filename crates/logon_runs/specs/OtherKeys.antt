-- What a client and its member make of each other's units where their sessions may differ, and where a logon leads that
-- was granted with whatever key (MS-NLMP 3.2.5.1.2; the memo interface is this project's own).
pub mod Differing
pub mod GrantRests
pub mod LetIn
