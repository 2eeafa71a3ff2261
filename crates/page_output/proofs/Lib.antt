mod Following
mod Sheets
