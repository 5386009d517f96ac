-- This file names the files of definitions.
pub mod Statuses
pub mod Messages
pub mod Replies
pub mod ReplyLaws
pub mod FlushedDevices
pub mod ListMismatches
pub mod ServedRequests
pub mod LoadedPrograms
pub mod Promises
pub mod Prelude
